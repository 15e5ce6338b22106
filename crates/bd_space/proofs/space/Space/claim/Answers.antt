use Rattle.std.proofs.Common.{◌≡◌, All, arith, ap, sym, ◌∙◌, subst}
use Rattle.std.proofs.lemmas.List.{with_items_is}
use Rattle.bd_space.specs.declared.space.Use.TheVariants.{Taken}
use Rattle.bd_space.specs.Allotment.{Allotment, IsFree}
use Rattle.bd_space.specs.Marking.{marked_uses}
use Rattle.bd_space.proofs.Kept.{few_taken, kept_taken, moved_to_taken}
use Rattle.bd_space.proofs.Marked.{Marks-from_marked}
use Rattle.bd_space.proofs.space.Space.claim.Goals as goal

pub overflow_cast-self : goal.overflow_cast-self
overflow_cast-self c =
    let few = few_taken c.self.inside.uses.items c.args.owner.now.numbers c.self.inside.free c.self.inside.held c.self.inside.lowest
    c.self.invariant c.requires.distinct (subst (λ (a : Allotment). All (IsFree a) c.args.owner.now.numbers) (sym c.self.view_is) c.requires.free) in
    omega (arith, few)

pub overflow_sub-self : goal.overflow_sub-self
overflow_sub-self c =
    let few = few_taken c.self.inside.uses.items c.args.owner.now.numbers c.self.inside.free c.self.inside.held c.self.inside.lowest
    c.self.invariant c.requires.distinct (subst (λ (a : Allotment). All (IsFree a) c.args.owner.now.numbers) (sym c.self.view_is) c.requires.free) in
    omega (arith, few)

pub invariant_of-self : goal.invariant_of-self
invariant_of-self c =
    let items = with_items_is c.self.inside.uses c.mark.new.uses (omega arith) in
    let marked : c.mark.new.uses ≡ marked_uses c.self.inside.uses.items c.args.owner.now.numbers Taken = cc in
    rw c.len.ensures (kept_taken c.self.inside.uses.items _ c.args.owner.now.numbers c.self.inside.free c.self.inside.held c.self.inside.lowest
    c.self.invariant c.requires.distinct (subst (λ (a : Allotment). All (IsFree a) c.args.owner.now.numbers) (sym c.self.view_is) c.requires.free) (items ∙ marked))

pub returns : goal.returns
returns c =
    let items = with_items_is c.self.inside.uses c.mark.new.uses (omega arith) in
    let was = ap (λ (a : Allotment). a.uses) c.self.view_is in
    let marked : c.mark.new.uses ≡ marked_uses c.args.self.now.uses c.args.owner.now.numbers Taken = cc was in
    let moved = moved_to_taken c.args.owner.now.numbers c.args.self.now.uses _ c.requires.distinct c.requires.free (items ∙ marked) in
    record { taken = Marks-from_marked _ Taken c.args.self.now _ moved.marks; free = omega (arith, moved.free); held = moved.held }
