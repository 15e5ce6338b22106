use Rattle.std.proofs.Common.{◌≡◌, ◌++◌, List, length, flat_map, sym, subst, arith, ap}
use Rattle.std.proofs.lemmas.List.Folds.{flat_map-map}
use Rattle.bd_roll.specs.declared.rows.ActiveCategory.{ActiveCategory}
use Rattle.bd_roll.specs.declared.rows.VersionRow.{VersionRow}
use Rattle.bd_roll.specs.Catalogue.{OpenEntry, VersionEntry, VolumeEntry, all_extents}
use Rattle.bd_roll.specs.Giving.{AreOwned, GivesUp}
use Rattle.bd_roll.specs.Shown.{catalogue_of_contents, open_entry}
use Rattle.bd_roll.proofs.GivenUp.{gives_both, owned_alone, owned_first, owned_second}
use Rattle.bd_roll.proofs.contents.Contents.give_up_all.Goals as goal
use Rattle.bd_roll.proofs.contents.Contents.give_up_all.Goals.{in-Some, in_default}

pub release_all-requires : goal.release_all-requires
release_all-requires c =
    let d = catalogue_of_contents c.args.self.now in
    subst (AreOwned c.args.space.now) (flat_map-map (λ (e : OpenEntry). e.extents) open_entry c.args.self.now.actives.items)
    (owned_second c.args.space.now (flat_map (λ (e : VersionEntry). e.extents) d.versions ++ flat_map (λ (e : VolumeEntry). e.extents) d.volumes) (flat_map (λ (e : OpenEntry). e.extents) d.actives) c.requires.owned)

pub release_recipe-requires : goal.release_recipe-requires
release_recipe-requires c =
    let v : VersionRow = c.in-Some.version in
    let parts : all_extents (catalogue_of_contents c.args.self.now) ≡ v.recipe.numbers ++ flat_map (λ (a : ActiveCategory). a.extents.numbers) c.args.self.now.actives.items =
    owned_alone c.args.self.now c.pop.new.self.items v c.requires.one c.requires.volumes c.in-Some.ensures.items in
    owned_first v.recipe.numbers (subst (AreOwned c.args.space.now) parts c.requires.owned) c.release_all.ensures.gives

pub returns-clause-gives : goal.returns-clause-gives
returns-clause-gives c =
    elim c.match-pop.branch [
      | in-Some w ↦
          let v : VersionRow = w.in-Some.version in
          let parts : all_extents (catalogue_of_contents c.args.self.now) ≡ v.recipe.numbers ++ flat_map (λ (a : ActiveCategory). a.extents.numbers) c.args.self.now.actives.items =
          owned_alone c.args.self.now c.pop.new.self.items v c.requires.one c.requires.volumes w.in-Some.ensures.items in
          subst (λ ns. GivesUp ns c.args.space.now c.match-pop.space) (sym parts)
          (gives_both c.release_all.ensures.gives (subst (GivesUp v.recipe.numbers c.release_all.new.space) (sym w.space-is) w.release_recipe.ensures))
      | in_default w ↦ absurd (omega (arith, c.requires.one, ap (λ (xs : List VersionRow). length xs) w.in_default.ensures.items, w.in_default.ensures))
    ]
