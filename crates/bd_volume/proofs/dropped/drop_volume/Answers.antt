use Rattle.std.proofs.Common.{◌≡◌, ◌∙◌, ◌+◌, List, length, map, ap, arith}
use Rattle.std.proofs.lemmas.List.{length-map}
use Rattle.std.specs.List.{flat_map}
use Rattle.bd_roll.specs.declared.rows.ActiveCategory.{ActiveCategory}
use Rattle.bd_roll.specs.declared.rows.VersionRow.{VersionRow}
use Rattle.bd_roll.specs.Catalogue.{VolumeEntry}
use Rattle.bd_roll.specs.Shown.{open_entry, volume_entry}
use Rattle.bd_roll.specs.Splitting.{expired}
use Rattle.bd_volume.proofs.ExtentsOfOldest.{few_expired, with_categories, with_volume}
use Rattle.bd_volume.proofs.dropped.drop_volume.Goals as goal
use Rattle.bd_volume.proofs.dropped.drop_volume.Goals.{After-as_slice, After-category_extents, After-len}

closed : (c : After-len) → length c.index-versions-0.result.recipe.numbers + length c.in-Some.volume.now.extents.numbers ≡ length (expired c.args.catalog.now.found.catalogue)
closed c =
    with_volume c.args.catalog.now.found.sizes c.args.catalog.now.found.catalogue c.args.catalog.now.rules c.requires c.versions.result.now c.index-versions-0.result c.versions.ensures c.index-versions-0.is
    c.volumes.result.now c.in-Some.volume.now c.volumes.ensures (omega (arith, c.in-Some.ensures.item.3)) c.in-Some.ensures.item.1

every : (c : After-as_slice) → length c.index-versions-0.result.recipe.numbers + length (flat_map (λ (a : ActiveCategory). a.extents.numbers) c.as_slice.result.now) ≡ length (expired c.args.catalog.now.found.catalogue)
every c =
    with_categories c.args.catalog.now.found.sizes c.args.catalog.now.found.catalogue c.args.catalog.now.rules c.requires c.versions.result.now c.index-versions-0.result c.versions.ensures c.index-versions-0.is
    c.as_slice.result.now (ap (map open_entry) c.as_slice.ensures ∙ c.actives.ensures)
    (omega (arith, c.in_default.ensures.item.3, ap (λ (l : List VolumeEntry). length l) c.volumes.ensures, length-map c.volumes.result.now volume_entry))

counted : (c : After-category_extents) → c.len-recipe.result + c.category_extents.result ≡ length (expired c.args.catalog.now.found.catalogue)
counted c =
    let all =
    with_categories c.args.catalog.now.found.sizes c.args.catalog.now.found.catalogue c.args.catalog.now.rules c.requires c.versions.result.now c.index-versions-0.result c.versions.ensures c.index-versions-0.is
    c.as_slice.result.now (ap (map open_entry) c.as_slice.ensures ∙ c.actives.ensures)
    (omega (arith, c.in_default.ensures.item.3, ap (λ (l : List VolumeEntry). length l) c.volumes.ensures, length-map c.volumes.result.now volume_entry))
    in omega (arith, all, c.len-recipe.ensures, ap (λ (r : VersionRow). length r.recipe.numbers) c.index-versions-0.is, c.category_extents.ensures)

pub overflow_add-result : goal.overflow_add-result
overflow_add-result c = omega (arith, closed c, few_expired c.args.catalog.now.found.sizes c.args.catalog.now.found.catalogue c.args.catalog.now.shaped.extents_high c.args.catalog.now.rules, c.len-recipe.ensures, ap (λ (r : VersionRow). length r.recipe.numbers) c.index-versions-0.is, c.len.ensures)

pub category_extents-requires : goal.category_extents-requires
category_extents-requires c = omega (arith, every c, few_expired c.args.catalog.now.found.sizes c.args.catalog.now.found.catalogue c.args.catalog.now.shaped.extents_high c.args.catalog.now.rules)

pub overflow_add-result-2 : goal.overflow_add-result-2
overflow_add-result-2 c = omega (arith, counted c, few_expired c.args.catalog.now.found.sizes c.args.catalog.now.found.catalogue c.args.catalog.now.shaped.extents_high c.args.catalog.now.rules)

pub returns : goal.returns
returns c = counted c

pub returns-in-Some : goal.returns-in-Some
returns-in-Some c = omega (arith, closed c, c.len-recipe.ensures, ap (λ (r : VersionRow). length r.recipe.numbers) c.index-versions-0.is, c.len.ensures)
