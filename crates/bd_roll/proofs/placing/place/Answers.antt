use Rattle.std.proofs.Common.{◌≡◌, map, get_or, sym, ◌∙◌, ap, subst}
use Rattle.std.specs.Prelude.{Contains}
use Rattle.bd_roll.specs.declared.rows.ActiveCategory.{ActiveCategory}
use Rattle.bd_roll.specs.Giving.{AreOwned, GivesUp}
use Rattle.bd_roll.specs.Shown.{open_entry}
use Rattle.bd_roll.specs.Splitting.{extents_at, put_in_place}
use Rattle.bd_roll.specs.Steps.{fresh_actives}
use Rattle.bd_roll.proofs.GivenUp.{gives_none}
use Rattle.bd_roll.proofs.InPlace.{at_index, at_none, none_among, put_none, put_remove, put_set, starts}
use Rattle.bd_roll.proofs.placing.place.Goals as goal
use Rattle.bd_roll.proofs.placing.place.Goals.{Joined-kept-2, In_default, in-None, in-Some-kept}

-- No category begins there.
none_there : (c : In_default) → Contains (starts (map open_entry c.args.actives.now.items)) c.args.split.start → ⊥
none_there c = none_among c.args.actives.now.items c.args.split.start (c.index_of.ensures.none c.in_default.is)

pub returns-in_default-clause-actives : goal.returns-in_default-clause-actives
returns-in_default-clause-actives c =
    sym (put_none c.args.split.start (fresh_actives c.args.split.kept) (map open_entry c.args.actives.now.items) (none_there (goal.at.returns-in_default-clause-actives c).In_default))

pub returns-in_default-clause-gives : goal.returns-in_default-clause-gives
returns-in_default-clause-gives c =
    let none = none_there (goal.at.returns-in_default-clause-gives c).In_default in
    subst (λ ns. GivesUp ns c.args.space.now c.args.space.now) (sym (at_none c.args.split.start (map open_entry c.args.actives.now.items) none)) (gives_none c.args.space.now)

-- The extents that stood there are those of what was taken out.
taken_out : (c : Joined-kept-2) → extents_at c.args.split.start (map open_entry c.args.actives.now.items) ≡ c.match-kept-2.before.extents.numbers
taken_out c =
    let xs = c.args.actives.now.items in
    let k = c.in-Some.index in
    let before : ActiveCategory = c.match-kept-2.before in
    let was : before ≡ get_or xs k before = elim c.match-kept-2.branch [
      | in-Some-kept w ↦ subst (λ (x : ActiveCategory). x ≡ get_or xs k x) (sym w.before-is) w.set-before.ensures.before
      | in-None w ↦ subst (λ (x : ActiveCategory). x ≡ get_or xs k x) (sym w.before-is) w.remove-before.ensures.before
    ] in
    at_index xs k c.args.split.start before c.requires.differ c.in-Some.ensures.some.0 c.in-Some.ensures.some.1 ∙ ap (λ (x : ActiveCategory). x.extents.numbers) (sym was)

pub release-requires : goal.release-requires
release-requires c = subst (AreOwned c.args.space.now) (taken_out (goal.at.release-requires c).Joined-kept-2) c.requires.owned

pub returns-clause-actives : goal.returns-clause-actives
returns-clause-actives c =
    let xs = c.args.actives.now.items in
    let k = c.in-Some.index in
    let i = c.args.split.start in
    elim c.match-kept-2.branch [
      | in-Some-kept w ↦
          ap (λ rest. map open_entry rest.items) w.actives-is ∙ ap (map open_entry) w.set-before.ensures.items
          ∙ put_set xs k i w.in-Some-kept.kept c.requires.differ c.in-Some.ensures.some.0 c.in-Some.ensures.some.1
          ∙ ap (λ o. put_in_place i (fresh_actives o) (map open_entry xs)) (sym w.in-Some-kept.is)
      | in-None w ↦
          ap (λ rest. map open_entry rest.items) w.actives-is ∙ ap (map open_entry) w.remove-before.ensures.items
          ∙ put_remove xs k i c.requires.differ c.in-Some.ensures.some.0 c.in-Some.ensures.some.1
          ∙ ap (λ o. put_in_place i (fresh_actives o) (map open_entry xs)) (sym w.in-None.is)
    ]

pub returns-clause-gives : goal.returns-clause-gives
returns-clause-gives c =
    subst (λ ns. GivesUp ns c.args.space.now c.release.new.space) (sym (taken_out (goal.at.returns-clause-gives c).Joined-kept-2)) c.release.ensures
