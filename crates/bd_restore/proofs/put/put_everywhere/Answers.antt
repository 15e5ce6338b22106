use Rattle.std.proofs.Common.{◌≡◌, ◌≢◌, ℕ, ◌<◌, ◌-◌, length, refl, ◌∙◌, ap, subst, arith}
use Rattle.bd_restore.specs.Target.{held, mark_at, Fills, PutsBody}
use Rattle.bd_restore.proofs.Marks.{limit_of, IsAt, first_at, none_first, next_at, none_next, next_later}
use Rattle.bd_restore.proofs.Frames.{target_both, target_none}
use Rattle.bd_restore.proofs.PutLemmas.{target_after, puts_none, puts_more, fills_none, fills_more}
use Rattle.bd_restore.proofs.put.put_everywhere.Goals as goal

pub loop-next-init : goal.loop-next-init
loop-next-init g c =
    let entries = c.args.tables.now in
    let m = c.args.mark.now.0 in
    let found = c.first-next.result in
    let none : (k : ℕ) → k < limit_of entries found → k < length entries → mark_at entries k ≢ m = none_first entries m found c.first-next.ensures.index in
    record {
      at = first_at entries m found c.first-next.ensures.within c.first-next.ensures.index;
      faults = refl;
      files = target_none;
      there = c.requires.there;
      filled = fills_none entries m c.args.filled.now (limit_of entries found) none;
      put = λ told. puts_none entries m c.args.body.now (held (g.F.Files.files c.args.files.now) c.args.name.now) (limit_of entries found) none;
    }

pub loop-next-preserved : goal.loop-next-preserved
loop-next-preserved g c =
    let entries = c.args.tables.now in
    let m = c.args.mark.now.0 in
    let name = c.args.name.now in
    let body = c.args.body.now in
    let inv = c.loop-next.invariant in
    let j = c.in-Some.index in
    let found = c.next-next.result in
    let first_file = held (g.F.Files.files c.args.files.now) name in
    let at : (j < length entries) × (mark_at entries j ≡ m) = subst (IsAt entries m) c.in-Some.is inv.at in
    let reached : limit_of entries c.loop-next.next ≡ j = ap (limit_of entries) c.in-Some.is in
    let gap : (k : ℕ) → j < k → k < limit_of entries found → k < length entries → mark_at entries k ≢ m = none_next entries m j at.0 at.1 found c.next-next.ensures.index in
    record {
      at = next_at entries m j at.0 at.1 found c.next-next.ensures.later c.next-next.ensures.index;
      faults = c.in_ok-put_at.ensures.cause.cause ∙ inv.faults;
      files = target_both inv.files c.put_at.ensures.files;
      there = λ told. target_after entries name body j (g.F.Files.files c.loop-next.files) _ (inv.there told) (c.in_ok-put_at.ensures.put told);
      filled = fills_more entries m j (limit_of entries found) c.args.filled.now c.loop-next.filled _ at.0 (inv.filled.count ∙ c.requires.flags) at.1 gap c.in_ok-put_at.ensures.filled
          (subst (λ n. Fills entries m n c.args.filled.now c.loop-next.filled) reached inv.filled);
      put = λ told. puts_more entries name body j (g.F.Files.files c.loop-next.files) _ (inv.there told) (c.in_ok-put_at.ensures.put told) m first_file (limit_of entries found) at.0 c.in_ok-put_at.ensures.sized at.1 gap
          (subst (λ n. PutsBody entries m body n first_file (held (g.F.Files.files c.loop-next.files) name)) reached (inv.put told));
    }

pub loop-next-smaller : goal.loop-next-smaller
loop-next-smaller g c =
    let entries = c.args.tables.now in
    let j = c.in-Some.index in
    let at : (j < length entries) × (mark_at entries j ≡ c.args.mark.now.0) = subst (IsAt entries c.args.mark.now.0) c.in-Some.is c.loop-next.invariant.at in
    let reached : limit_of entries c.loop-next.next ≡ j = ap (limit_of entries) c.in-Some.is in
    let later : j < limit_of entries c.next-next.result = next_later entries c.args.mark.now.0 j at.0 at.1 c.next-next.result c.next-next.ensures.later in
    let less : length entries - limit_of entries c.next-next.result < length entries - limit_of entries c.loop-next.next = omega (arith, reached, later, at.0) in
    less
