use Rattle.std.proofs.Common.{◌≡◌, ◌++◌, ◌∷◌, [], List, map, sym, ◌∙◌, ap, subst}
use Rattle.std.specs.Prelude.{option_to_list}
use Rattle.std.proofs.lemmas.List.{map-append}
use Rattle.bd_roll.specs.Catalogue.{OpenEntry}
use Rattle.bd_roll.specs.Giving.{AreOwned, GivesUp}
use Rattle.bd_roll.specs.Shown.{open_entry}
use Rattle.bd_roll.specs.Splitting.{KeptEntry, AreSplits, extents_at, in_place, put_in_place, replaced}
use Rattle.bd_roll.specs.Steps.{kept_entry}
use Rattle.bd_roll.proofs.GivenUp.{gives_both, gives_none, none_left, owned_first, owned_second}
use Rattle.bd_roll.proofs.InPlace.{LastSplit, last_split}
use Rattle.bd_roll.proofs.placing.place_all.Goals as goal
use Rattle.bd_roll.proofs.placing.place_all.Goals.{In-Some, In_default}

-- The last split, and the splits before it.
popped : (c : In-Some) → map kept_entry c.loop-split.splits.items ≡ map kept_entry c.pop.new.self.items ++ kept_entry c.in-Some.split ∷ []
popped c =
    let rest = c.pop.new.self.items in
    ap (map kept_entry) (c.pop.ensures.items ∙ ap (λ o. rest ++ option_to_list o) c.in-Some.is) ∙ map-append kept_entry rest (c.in-Some.split ∷ [])

last : (c : In-Some) → LastSplit (map kept_entry c.pop.new.self.items) (kept_entry c.in-Some.split) (map open_entry c.loop-split.actives.items)
last c =
    let cs = map open_entry c.loop-split.actives.items in
    last_split (map kept_entry c.pop.new.self.items) (kept_entry c.in-Some.split) cs (subst (λ xs. AreSplits xs cs) (popped c) c.loop-split.invariant.splits)

pub place-requires-clause-differ : goal.place-requires-clause-differ
place-requires-clause-differ c = c.loop-split.invariant.splits.differ

-- What is owned: what the splits before it put out of place, and what it does.
owned : (c : In-Some) → AreOwned c.loop-split.space
    (replaced (map kept_entry c.pop.new.self.items) (put_in_place c.in-Some.split.start (kept_entry c.in-Some.split).kept (map open_entry c.loop-split.actives.items)) ++ extents_at c.in-Some.split.start (map open_entry c.loop-split.actives.items))
owned c = subst (AreOwned c.loop-split.space) (ap (λ xs. replaced xs (map open_entry c.loop-split.actives.items)) (popped c) ∙ (last c).gives) c.loop-split.invariant.owned

pub place-requires-clause-owned : goal.place-requires-clause-owned
place-requires-clause-owned c =
    let cs : List OpenEntry = map open_entry c.loop-split.actives.items in
    let x = c.in-Some.split in
    owned_second c.loop-split.space (replaced (map kept_entry c.pop.new.self.items) (put_in_place x.start (kept_entry x).kept cs)) (extents_at x.start cs) (owned (goal.at.place-requires-clause-owned c).In-Some)

pub loop-split-preserved : goal.loop-split-preserved
loop-split-preserved c =
    let at = (goal.at.loop-split-preserved c).In-Some in
    let cs : List OpenEntry = map open_entry c.loop-split.actives.items in
    let es : List KeptEntry = map kept_entry c.pop.new.self.items in
    let now = sym c.place.ensures.actives in
    let gives = c.place.ensures.gives in
    record {
      splits = subst (AreSplits es) now (last at).splits;
      placed = ap (in_place es) (sym now) ∙ sym (last at).placed ∙ ap (λ xs. in_place xs cs) (sym (popped at)) ∙ c.loop-split.invariant.placed;
      owned = subst (λ xs. AreOwned c.place.new.space (replaced es xs)) now (owned_first (replaced es (put_in_place c.in-Some.split.start (kept_entry c.in-Some.split).kept cs)) (owned at) gives);
      gives = λ end then.
          c.loop-split.invariant.gives end (subst (λ ns. GivesUp ns c.loop-split.space end) (sym (ap (λ xs. replaced xs cs) (popped at) ∙ (last at).gives))
          (gives_both gives (subst (λ xs. GivesUp (replaced es xs) c.place.new.space end) (sym now) then)));
    }

-- In the end none is left.
none : (c : In_default) → c.loop-split.splits.items ≡ []
none c = none_left c.loop-split.splits.items c.in_default.ensures.some.1

pub returns-clause-actives : goal.returns-clause-actives
returns-clause-actives c =
    ap (λ xs. in_place (map kept_entry xs) (map open_entry c.loop-split.actives.items)) (sym (none (goal.at.returns-clause-actives c).In_default)) ∙ c.loop-split.invariant.placed

pub returns-clause-gives : goal.returns-clause-gives
returns-clause-gives c =
    c.loop-split.invariant.gives c.loop-split.space
    (subst (λ xs. GivesUp (replaced (map kept_entry xs) (map open_entry c.loop-split.actives.items)) c.loop-split.space c.loop-split.space) (sym (none (goal.at.returns-clause-gives c).In_default)) (gives_none c.loop-split.space))
