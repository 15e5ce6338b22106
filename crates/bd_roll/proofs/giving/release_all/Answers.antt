use Rattle.std.proofs.Common.{◌≡◌, ◌++◌, [], ℕ, List, flat_map, sym, subst, ◌∙◌, ap}
use Rattle.std.proofs.lemmas.List.{append-nil}
use Rattle.std.specs.Prelude.{option_to_list}
use Rattle.bd_roll.specs.declared.rows.ActiveCategory.{ActiveCategory}
use Rattle.bd_roll.specs.Giving.{AreOwned, GivesUp}
use Rattle.bd_roll.proofs.GivenUp.{flat_map-last, gives_both, gives_none, none_left, owned_first, owned_second}
use Rattle.bd_roll.proofs.giving.release_all.Goals as goal
use Rattle.bd_roll.proofs.giving.release_all.Goals.{In-Some, In_default}

abbrev numbers : ActiveCategory → List ℕ
numbers a = a.extents.numbers

-- The extents of what was taken out stand behind those of the rest.
parts : (c : In-Some) → flat_map numbers c.loop-category.actives.items ≡ flat_map numbers c.pop.new.self.items ++ c.in-Some.category.extents.numbers
parts c = ap (flat_map numbers) (c.pop.ensures.items ∙ ap (λ o. c.pop.new.self.items ++ option_to_list o) c.in-Some.is) ∙ flat_map-last numbers c.pop.new.self.items c.in-Some.category

pub release-requires : goal.release-requires
release-requires c =
    owned_second c.loop-category.space (flat_map numbers c.pop.new.self.items) c.in-Some.category.extents.numbers
    (subst (AreOwned c.loop-category.space) (parts (goal.at.release-requires c).In-Some) c.loop-category.invariant.owned)

pub loop-category-preserved : goal.loop-category-preserved
loop-category-preserved c =
    let parts = parts (goal.at.loop-category-preserved c).In-Some in
    record {
      owned = owned_first (flat_map numbers c.pop.new.self.items) (subst (AreOwned c.loop-category.space) parts c.loop-category.invariant.owned) c.release.ensures;
      gives = λ last then. c.loop-category.invariant.gives last (subst (λ ns. GivesUp ns c.loop-category.space last) (sym parts) (gives_both c.release.ensures then));
    }

-- In the end none is left.
none : (c : In_default) → c.loop-category.actives.items ≡ []
none c = none_left c.loop-category.actives.items c.in_default.ensures.some.1

pub returns-clause-none : goal.returns-clause-none
returns-clause-none c = sym (append-nil c.pop.new.self.items) ∙ sym c.in_default.ensures.items ∙ none (goal.at.returns-clause-none c).In_default

pub returns-clause-gives : goal.returns-clause-gives
returns-clause-gives c =
    c.loop-category.invariant.gives c.loop-category.space
    (subst (λ xs. GivesUp (flat_map numbers xs) c.loop-category.space c.loop-category.space) (sym (none (goal.at.returns-clause-gives c).In_default)) (gives_none c.loop-category.space))
