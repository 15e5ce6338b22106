use Rattle.std.proofs.Common.{◌≡◌, List, take, arith, ap, ◌∙◌, subst, add-zero}
use Rattle.std.proofs.lemmas.List.{with_items_is}
use Rattle.bd_space.specs.declared.space.Use.{Use}
use Rattle.bd_space.specs.declared.space.Use.TheVariants.{Taken}
use Rattle.bd_space.specs.Allotment.{Allotment, is_free, numbers_from}
use Rattle.bd_space.specs.Marking.{marked_uses}
use Rattle.bd_space.proofs.Lowest.{All-lowest_free, IsDistinct-lowest_free}
use Rattle.bd_space.proofs.Kept.{kept_extended, moved_by_extend, from_lowest}
use Rattle.bd_space.proofs.Numbers.{length-numbers_from}
use Rattle.bd_space.proofs.Marked.{Marks-from_marked}
use Rattle.bd_space.proofs.space.Space.extend.Goals as goal

pub take_lowest-self-inside-requires-clause-below : goal.take_lowest-self-inside-requires-clause-below
take_lowest-self-inside-requires-clause-below c =
    rw c.deref_mut.ensures.value (from_lowest c.self.inside.uses.items c.self.inside.free c.self.inside.held c.self.inside.lowest c.self.invariant)

pub take_lowest-self-inside-requires-clause-found : goal.take_lowest-self-inside-requires-clause-found
take_lowest-self-inside-requires-clause-found c =
    rw c.deref_mut.ensures.value
    (omega (arith, length-numbers_from is_free 0 c.self.inside.uses.items, c.self.invariant.free_counted))

pub invariant_of-self : goal.invariant_of-self
invariant_of-self c =
    let us : List Use = c.self.inside.uses.items in
    let items = with_items_is c.self.inside.uses c.take_lowest-self-inside.new.uses (omega arith) in
    let seen = c.deref_mut.ensures.value in
    kept_extended us _ c.args.count c.self.inside.free c.self.inside.held c.self.inside.lowest c.take_lowest-self-inside.result
    c.self.invariant (omega arith)
    (items ∙ subst (λ (vs : List Use). c.take_lowest-self-inside.new.uses ≡ marked_uses vs (take c.args.count (numbers_from is_free 0 vs)) Taken) seen c.take_lowest-self-inside.ensures.marked)
    (rw seen at c.take_lowest-self-inside.ensures.rest)

pub returns-clause-taken : goal.returns-clause-taken
returns-clause-taken c =
    let moved = moved_by_extend c.args.count c.args.self.now.uses c.self.inside.uses.items c.deref_mut.result.now c.take_lowest-self-inside.new.uses _
    c.self.inside.free c.self.inside.held c.self.inside.lowest c.self.invariant (omega arith) (ap (λ (a : Allotment). a.uses) c.self.view_is)
    c.deref_mut.ensures.value (with_items_is c.self.inside.uses c.take_lowest-self-inside.new.uses (omega arith)) c.take_lowest-self-inside.ensures.marked in
    Marks-from_marked _ Taken c.args.self.now _ moved.marks

pub returns-clause-free : goal.returns-clause-free
returns-clause-free c =
    let moved = moved_by_extend c.args.count c.args.self.now.uses c.self.inside.uses.items c.deref_mut.result.now c.take_lowest-self-inside.new.uses _
    c.self.inside.free c.self.inside.held c.self.inside.lowest c.self.invariant (omega arith) (ap (λ (a : Allotment). a.uses) c.self.view_is)
    c.deref_mut.ensures.value (with_items_is c.self.inside.uses c.take_lowest-self-inside.new.uses (omega arith)) c.take_lowest-self-inside.ensures.marked in
    moved.free ∙ add-zero _

pub returns-clause-held : goal.returns-clause-held
returns-clause-held c =
    let moved = moved_by_extend c.args.count c.args.self.now.uses c.self.inside.uses.items c.deref_mut.result.now c.take_lowest-self-inside.new.uses _
    c.self.inside.free c.self.inside.held c.self.inside.lowest c.self.invariant (omega arith) (ap (λ (a : Allotment). a.uses) c.self.view_is)
    c.deref_mut.ensures.value (with_items_is c.self.inside.uses c.take_lowest-self-inside.new.uses (omega arith)) c.take_lowest-self-inside.ensures.marked in
    moved.held

pub returns-clause-were_free : goal.returns-clause-were_free
returns-clause-were_free c = All-lowest_free c.args.count c.args.self.now

pub returns-clause-distinct : goal.returns-clause-distinct
returns-clause-distinct c = IsDistinct-lowest_free c.args.count c.args.self.now
