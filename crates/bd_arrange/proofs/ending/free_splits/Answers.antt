use Rattle.std.proofs.Common.{◌≡◌, ◌++◌, ◌∷◌, [], ℕ, List, flat_map, map, sym, subst, ◌∙◌, ap}
use Rattle.std.specs.Prelude.{option_to_list}
use Rattle.std.proofs.lemmas.List.{append-nil, map-append}
use Rattle.std.proofs.lemmas.List.Concat.{flat_map-append}
use Rattle.bd_roll.specs.declared.step.SplitRow.{SplitRow}
use Rattle.bd_roll.specs.Giving.{AreOwned, GivesUp}
use Rattle.bd_roll.specs.Splitting.{KeptEntry, kept_extents}
use Rattle.bd_roll.specs.Steps.{fresh_actives, kept_entry}
use Rattle.bd_roll.proofs.GivenUp.{gives_both, gives_none, none_left, owned_first, owned_second}
use Rattle.bd_arrange.proofs.ending.free_splits.Goals as goal
use Rattle.bd_arrange.proofs.ending.free_splits.Goals.{In-Some}

abbrev all : List SplitRow → List ℕ
all splits = kept_extents (map kept_entry splits)

abbrev own : SplitRow → List ℕ
own x = flat_map (λ a. a.extents) (fresh_actives x.kept)

parts : (rest : List SplitRow) (x : SplitRow) → all (rest ++ x ∷ []) ≡ all rest ++ own x
parts rest x =
    ap kept_extents (map-append kept_entry rest (x ∷ []))
    ∙ flat_map-append (λ (e : KeptEntry). flat_map (λ a. a.extents) e.kept) (map kept_entry rest) (kept_entry x ∷ [])
    ∙ ap (λ ns. all rest ++ ns) (append-nil (own x))

-- What is owned: what was kept of the rest, and of the last.
both : (c : In-Some) → all c.loop-split.splits.items ≡ all c.pop.new.self.items ++ own c.in-Some.split
both c =
    let rest = c.pop.new.self.items in
    ap all (c.pop.ensures.items ∙ ap (λ o. rest ++ option_to_list o) c.in-Some.is) ∙ parts rest c.in-Some.split

pub free_kept-requires : goal.free_kept-requires
free_kept-requires c =
    owned_second c.loop-split.space (all c.pop.new.self.items) (own c.in-Some.split) (subst (AreOwned c.loop-split.space) (both (goal.at.free_kept-requires c).In-Some) c.loop-split.invariant.owned)

pub loop-split-preserved : goal.loop-split-preserved
loop-split-preserved c =
    let both = both (goal.at.loop-split-preserved c).In-Some in
    record {
      owned = owned_first (all c.pop.new.self.items) (subst (AreOwned c.loop-split.space) both c.loop-split.invariant.owned) c.free_kept.ensures;
      gives = λ last then. c.loop-split.invariant.gives last (subst (λ ns. GivesUp ns c.loop-split.space last) (sym both) (gives_both c.free_kept.ensures then));
    }

pub returns : goal.returns
returns c =
    let none : c.loop-split.splits.items ≡ [] = none_left c.loop-split.splits.items c.in_default.ensures.some.1 in
    c.loop-split.invariant.gives c.loop-split.space (subst (λ xs. GivesUp (all xs) c.loop-split.space c.loop-split.space) (sym none) (gives_none c.loop-split.space))
