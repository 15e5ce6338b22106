use Rattle.std.proofs.Common.{◌≡◌, Bool, List, map, sym, ◌∙◌, ap}
use Rattle.std.specs.List.{list_all}
use Rattle.std.proofs.lemmas.List.Folds.{list_all-map}
use Rattle.bd_model.specs.Sizes.{Sizes, sizes_of}
use Rattle.bd_roll.specs.declared.rows.VersionRow.{VersionRow}
use Rattle.bd_roll.specs.declared.rows.ClosedVolume.{ClosedVolume}
use Rattle.bd_roll.specs.declared.rows.ActiveCategory.{ActiveCategory}
use Rattle.bd_roll.specs.Catalogue.{Catalogue, oldest_in}
use Rattle.bd_roll.specs.Rules.{phase_holds, version_holds, starts_hold, actives_hold, volume_holds, active_holds}
use Rattle.bd_roll.specs.Shown.{version_entry, volume_entry, open_entry, catalogue_of_contents}
use Rattle.bd_roll.proofs.RowChecks.{second_fails, fifth_fails, sixth_left}
use Rattle.bd_roll.proofs.rules.lists_hold.Goals as goal

versions_is : (s : Sizes) (xs ys : List VersionRow) (b : Bool) → ys ≡ xs → b ≡ list_all (λ x. version_holds s (version_entry x)) ys → list_all (version_holds s) (map version_entry xs) ≡ b
versions_is s xs ys b same is = list_all-map (version_holds s) version_entry xs ∙ ap (λ (zs : List VersionRow). list_all (λ x. version_holds s (version_entry x)) zs) (sym same) ∙ sym is

volumes_is : (s : Sizes) (xs ys : List ClosedVolume) (b : Bool) → ys ≡ xs → b ≡ list_all (λ x. volume_holds s (volume_entry x)) ys → list_all (volume_holds s) (map volume_entry xs) ≡ b
volumes_is s xs ys b same is = list_all-map (volume_holds s) volume_entry xs ∙ ap (λ (zs : List ClosedVolume). list_all (λ x. volume_holds s (volume_entry x)) zs) (sym same) ∙ sym is

actives_is : (s : Sizes) (xs ys : List ActiveCategory) (b : Bool) → ys ≡ xs → b ≡ list_all (λ x. active_holds s (open_entry x)) ys → list_all (active_holds s) (map open_entry xs) ≡ b
actives_is s xs ys b same is = list_all-map (active_holds s) open_entry xs ∙ ap (λ (zs : List ActiveCategory). list_all (λ x. active_holds s (open_entry x)) zs) (sym same) ∙ sym is

module _ (s : Sizes) (k : Catalogue) where
  abbrev test_phase : Bool
  test_phase = phase_holds k k.phase

  abbrev test_versions : Bool
  test_versions = list_all (version_holds s) k.versions

  abbrev test_starts : Bool
  test_starts = starts_hold (oldest_in k) (oldest_in k) k.volumes

  abbrev test_volumes : Bool
  test_volumes = list_all (volume_holds s) k.volumes

  abbrev test_actives : Bool
  test_actives = list_all (active_holds s) k.actives

pub returns-then-not-versions_hold : goal.returns-then-not-versions_hold
returns-then-not-versions_hold c =
    let s = sizes_of c.args.shape.now in
    let x = c.args.contents.now in
    let k = catalogue_of_contents x in
    sym (second_fails (test_phase s k) (test_versions s k) (test_starts s k) (actives_hold k) (test_volumes s k) (test_actives s k)
    (sym c.if-not-phase_holds.ensures)
    (versions_is s x.versions.items c.deref.result.now c.versions_hold.result c.deref.ensures.value c.versions_hold.ensures ∙ c.if-not-versions_hold.true))

pub returns-then-volumes_hold : goal.returns-then-volumes_hold
returns-then-volumes_hold c =
    let s = sizes_of c.args.shape.now in
    let x = c.args.contents.now in
    let k = catalogue_of_contents x in
    sym (sixth_left (test_phase s k) (test_versions s k) (test_starts s k) (actives_hold k) (test_volumes s k) (test_actives s k)
    (sym c.if-not-phase_holds.ensures)
    (versions_is s x.versions.items c.deref.result.now c.versions_hold.result c.deref.ensures.value c.versions_hold.ensures ∙ c.if-not-versions_hold.false)
    (sym c.if-not-starts_hold.ensures) (sym c.if-not-actives_hold.ensures)
    (volumes_is s x.volumes.items c.deref-2.result.now c.volumes_hold.result c.deref-2.ensures.value c.volumes_hold.ensures ∙ c.if-volumes_hold.true)
    ∙ actives_is s x.actives.items c.as_slice.result.now c.each_active_holds.result c.as_slice.ensures c.each_active_holds.ensures)

pub returns-else-volumes_hold : goal.returns-else-volumes_hold
returns-else-volumes_hold c =
    let s = sizes_of c.args.shape.now in
    let x = c.args.contents.now in
    let k = catalogue_of_contents x in
    c.if-volumes_hold.false
    ∙ sym (fifth_fails (test_phase s k) (test_versions s k) (test_starts s k) (actives_hold k) (test_volumes s k) (test_actives s k)
    (sym c.if-not-phase_holds.ensures)
    (versions_is s x.versions.items c.deref.result.now c.versions_hold.result c.deref.ensures.value c.versions_hold.ensures ∙ c.if-not-versions_hold.false)
    (sym c.if-not-starts_hold.ensures) (sym c.if-not-actives_hold.ensures)
    (volumes_is s x.volumes.items c.deref-2.result.now c.volumes_hold.result c.deref-2.ensures.value c.volumes_hold.ensures ∙ c.if-volumes_hold.false))
