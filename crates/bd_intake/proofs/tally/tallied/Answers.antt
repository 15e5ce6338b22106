use Rattle.std.proofs.Common.{◌≡◌, ◌<◌, ◌∷◌, ◌++◌, ◌∙◌, [], ap, sym, subst, arith, get_or, length, take}
use Rattle.std.proofs.lemmas.List.{take_all, take_more}
use Rattle.bd_model.specs.declared.layout.RecipeEntry.{RecipeEntry}
use Rattle.bd_intake.specs.declared.tally.Share.{Share}
use Rattle.bd_intake.specs.Tallies.{CountsNeighbour}
use Rattle.bd_intake.proofs.Totals.{archived_fit, fits_front, kept_fit}
use Rattle.bd_intake.proofs.tally.tallied.Goals as goal

pub count_entry-requires-clause-kept : goal.count_entry-requires-clause-kept
count_entry-requires-clause-kept c =
    let d : RecipeEntry = record { mark = record { 0 = [] }; length = 0; start = 0 } in
    let new = c.requires.used.new in
    let old = take c.loop-index.index c.args.neighbour.now.entries in
    let counts : CountsNeighbour old new c.loop-index.tally = c.loop-index.invariant new c.requires.used.so in
    let i = (get_or c.as_slice-entries.result.now c.loop-index.index d).start in
    omega (arith, ap (λ (s : Share). s.kept) (counts.shares i), kept_fit old new i (fits_front c.loop-index.index c.args.neighbour.now.entries c.requires.sums))

pub count_entry-requires-clause-archived : goal.count_entry-requires-clause-archived
count_entry-requires-clause-archived c =
    let new = c.requires.used.new in
    let old = take c.loop-index.index c.args.neighbour.now.entries in
    let counts : CountsNeighbour old new c.loop-index.tally = c.loop-index.invariant new c.requires.used.so in
    omega (arith, counts.archived, archived_fit old new (fits_front c.loop-index.index c.args.neighbour.now.entries c.requires.sums))

pub loop-index-preserved : goal.loop-index-preserved
loop-index-preserved c = λ new are.
    let d : RecipeEntry = record { mark = record { 0 = [] }; length = 0; start = 0 } in
    let es = c.args.neighbour.now.entries in
    let k = c.loop-index.index in
    let same : c.as_slice-entries.result.now ≡ es = c.as_slice-entries.ensures ∙ c.entries.ensures.entries in
    let e = get_or c.as_slice-entries.result.now k d in
    let inside : k < length es = omega (arith, c.loop-index-test.true, ap length same) in
    subst (λ xs. CountsNeighbour xs new c.count_entry.new.tally) (ap (λ xs. take k es ++ get_or xs k d ∷ []) same ∙ sym (take_more es k d inside))
    (c.in_ok-count_entry.ensures.counted (take k es) new (c.loop-index.invariant new are) c.is_first-first.ensures.first
    (λ yes. are.firsts e.mark.0 k (c.is_first-first.ensures.found yes)))

pub returns : goal.returns
returns c = record {
  counted = λ new are.
      let es = c.args.neighbour.now.entries in
      let same : c.as_slice-entries.result.now ≡ es = c.as_slice-entries.ensures ∙ c.entries.ensures.entries in
      subst (λ xs. CountsNeighbour xs new c.loop-index.tally) (take_all c.loop-index.index es (omega (arith, c.loop-index-test.false, ap length same))) (c.loop-index.invariant new are);
}
