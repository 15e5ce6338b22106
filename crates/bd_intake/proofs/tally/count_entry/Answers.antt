use Rattle.std.proofs.Common.{ℕ, ◌≡◌, ◌+◌, ◌∷◌, ◌++◌, ◌∙◌, [], not, cond, ap, sym, nat_eq, Some, is_some}
use Rattle.std.specs.Map.{lookup}
use Rattle.bd_intake.specs.Tallies.{share_at, share_with}
use Rattle.bd_intake.proofs.TallyLemmas.{counts-push}
use Rattle.bd_intake.proofs.tally.count_entry.Goals as goal
use Rattle.bd_intake.proofs.tally.count_entry.Goals.{After-is_none}

-- What is told of each start, with this entry.
told : (c : After-is_none) (i : ℕ) → lookup (nat_eq i) c.insert.new.self.entries
    ≡ cond (nat_eq c.args.entry.now.start i) (Some (share_with (share_at c.args.tally.now c.args.entry.now.start) c.args.entry.now c.args.is_first c.args.is_used)) (lookup (nat_eq i) c.args.tally.now.shares.entries)
told c i =
    let e = c.args.entry.now in
    c.in_ok-before.ensures.updates.0 i
    ∙ ap (λ s. cond (nat_eq e.start i) (Some s) (lookup (nat_eq i) c.args.tally.now.shares.entries))
    (c.with_entry-share.ensures ∙ ap (λ s. share_with s e c.args.is_first c.args.is_used) c.told_of.ensures)

-- Whether the start was there before.
there : (c : After-is_none) → is_some (lookup (nat_eq c.args.entry.now.start) c.args.tally.now.shares.entries) ≡ not c.is_none.result
there c = ap is_some (sym c.in_ok-before.ensures.old) ∙ c.is_none.ensures

pub returns-in_ok-push : goal.returns-in_ok-push
returns-in_ok-push c =
    let at = (goal.at.returns-in_ok-push c).After-is_none in
    let before = c.args.tally.now in
    let e = c.args.entry.now in
    record {
      counted = λ old new counts is meets.
          counts-push old new e before _ c.args.is_first c.args.is_used counts is meets (told at) (ap (λ n. before.archived + n) c.bytes_gone.ensures.bytes)
          (c.in_ok-push.ensures.items ∙ ap (λ b. cond b before.starts.items (before.starts.items ++ e.start ∷ [])) (sym (there at ∙ ap not c.if-is_none.true)));
    }

pub returns-else-is_none : goal.returns-else-is_none
returns-else-is_none c =
    let at = (goal.at.returns-else-is_none c).After-is_none in
    let before = c.args.tally.now in
    record {
      counted = λ old new counts is meets.
          counts-push old new c.args.entry.now before _ c.args.is_first c.args.is_used counts is meets (told at) (ap (λ n. before.archived + n) c.bytes_gone.ensures.bytes)
          (ap (λ b. cond b before.starts.items (before.starts.items ++ c.args.entry.now.start ∷ [])) (sym (there at ∙ ap not c.if-is_none.false)));
    }
