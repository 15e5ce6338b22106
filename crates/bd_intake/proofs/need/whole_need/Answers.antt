use Rattle.std.proofs.Common.{◌≡◌, ◌+◌, ◌≤◌, sym, subst, arith, refl}
use Rattle.bd_model.specs.Laws.{entries_of_chunks}
use Rattle.bd_model.specs.Recipe.{has_mark}
use Rattle.bd_space.specs.Allotment.{held_count}
use Rattle.bd_intake.specs.Answers.{RefusesRoom}
use Rattle.bd_intake.specs.Given.{Given, given_of}
use Rattle.bd_intake.specs.Needs.{need_in}
use Rattle.bd_intake.specs.Seen.{AreUsed}
use Rattle.bd_intake.specs.Tallies.{moved_of}
use Rattle.bd_intake.proofs.VersionNeed.{need_is, used_by}
use Rattle.bd_intake.proofs.need.whole_need.Goals as goal

pub moved_extents-requires-clause-used : goal.moved_extents-requires-clause-used
moved_extents-requires-clause-used c =
    let t : Given = given_of c.args.terms.now in
    let is = c.requires.staging in
    record { new = entries_of_chunks t.old t.version is.taken; so = subst (AreUsed t.old (has_mark (entries_of_chunks t.old t.version is.taken))) (sym c.used.ensures) (used_by t is.taken c.args.staging.now is.has) }

pub returns-then-need-from-clause-refused : goal.returns-then-need-from-clause-refused
returns-then-need-from-clause-refused c = λ taken has.
    let t : Given = given_of c.args.terms.now in
    let a = c.args.staging.now in
    let some : 1 ≤ t.sizes.extent = omega (arith, c.args.terms.now.shape.in_range.extent_low) in
    let moved : c.in_ok-moved.moved ≡ moved_of t.sizes.extent t.old (entries_of_chunks t.old t.version taken) =
    c.in_ok-moved.ensures.moved (entries_of_chunks t.old t.version taken) (subst (AreUsed t.old (has_mark (entries_of_chunks t.old t.version taken))) (sym c.used.ensures) (used_by t taken a has)) in
    let need : c.len.result + c.len-2.result + c.in_ok-moved.moved ≡ need_in t taken =
    need_is t taken a has some c.requires.staging.extents c.in_ok-moved.moved (c.len.result + c.len-2.result + c.in_ok-moved.moved) moved (omega (arith, c.len.ensures, c.len-2.ensures)) in
    subst (RefusesRoom (need_in t taken) t.free (held_count c.args.space.now)) (sym c.full.ensures) (omega (arith, need, c.if-need-from.true, c.from.ensures), need, refl, refl)

pub returns-clause-need : goal.returns-clause-need
returns-clause-need c = λ taken has.
    let t : Given = given_of c.args.terms.now in
    let a = c.args.staging.now in
    let some : 1 ≤ t.sizes.extent = omega (arith, c.args.terms.now.shape.in_range.extent_low) in
    let moved : c.in_ok-moved.moved ≡ moved_of t.sizes.extent t.old (entries_of_chunks t.old t.version taken) =
    c.in_ok-moved.ensures.moved (entries_of_chunks t.old t.version taken) (subst (AreUsed t.old (has_mark (entries_of_chunks t.old t.version taken))) (sym c.used.ensures) (used_by t taken a has)) in
    record {
      so = need_is t taken a has some c.requires.staging.extents c.in_ok-moved.moved (c.len.result + c.len-2.result + c.in_ok-moved.moved) moved (omega (arith, c.len.ensures, c.len-2.ensures));
      fits = omega (arith, c.if-need-from.false, c.from.ensures);
    }
