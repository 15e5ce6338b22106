use Rattle.std.proofs.Common.{◌≡◌, ℕ, ◌≤◌, List, All, arith, ap, sym, ◌∙◌, subst}
use Rattle.std.proofs.lemmas.List.{with_items_is}
use Rattle.bd_space.specs.declared.space.Use.TheVariants.{Free}
use Rattle.bd_space.specs.Allotment.{Allotment, IsTaken}
use Rattle.bd_space.specs.Marking.{marked_uses}
use Rattle.bd_space.proofs.Kept.{few_freed, kept_freed, moved_to_free}
use Rattle.bd_space.proofs.Marked.{Marks-from_marked}
use Rattle.bd_space.proofs.space.Space.give_back.Goals as goal

pub overflow_cast-self : goal.overflow_cast-self
overflow_cast-self c =
    let few = few_freed c.self.inside.uses.items c.args.owner.numbers c.self.inside.free c.self.inside.held c.self.inside.lowest
    c.self.invariant c.requires.distinct (subst (λ (a : Allotment). All (IsTaken a) c.args.owner.numbers) (sym c.self.view_is) c.requires.taken) in
    omega (arith, few)

pub overflow_add-self : goal.overflow_add-self
overflow_add-self c =
    let few = few_freed c.self.inside.uses.items c.args.owner.numbers c.self.inside.free c.self.inside.held c.self.inside.lowest
    c.self.invariant c.requires.distinct (subst (λ (a : Allotment). All (IsTaken a) c.args.owner.numbers) (sym c.self.view_is) c.requires.taken) in
    omega (arith, few)

pub invariant_of-self : goal.invariant_of-self
invariant_of-self c =
    let items = with_items_is c.self.inside.uses c.mark.new.uses (omega arith) in
    let marked : c.mark.new.uses ≡ marked_uses c.self.inside.uses.items c.args.owner.numbers Free = cc in
    rw c.len.ensures (kept_freed c.self.inside.uses.items _ c.args.owner.numbers c.self.inside.free c.self.inside.held c.self.inside.lowest c.lowest_of-self-inside.result
    c.self.invariant c.requires.distinct (subst (λ (a : Allotment). All (IsTaken a) c.args.owner.numbers) (sym c.self.view_is) c.requires.taken) (items ∙ marked)
    c.lowest_of-self-inside.ensures.no_more (subst (λ (ns : List ℕ). All (λ n. c.lowest_of-self-inside.result ≤ n) ns) c.numbers-2.ensures c.lowest_of-self-inside.ensures.least))

pub returns : goal.returns
returns c =
    let items = with_items_is c.self.inside.uses c.mark.new.uses (omega arith) in
    let was = ap (λ (a : Allotment). a.uses) c.self.view_is in
    let marked : c.mark.new.uses ≡ marked_uses c.args.self.now.uses c.args.owner.numbers Free = cc was in
    let moved = moved_to_free c.args.owner.numbers c.args.self.now.uses _ c.requires.distinct c.requires.taken (items ∙ marked) in
    record { freed = Marks-from_marked _ Free c.args.self.now _ moved.marks; free = omega (arith, moved.free); held = moved.held }
