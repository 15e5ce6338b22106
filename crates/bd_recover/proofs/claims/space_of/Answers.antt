use Rattle.std.proofs.Common.{map, refl, ◌∙◌, ap}
use Rattle.bd_roll.specs.Shown.{version_entry, volume_entry, open_entry}
use Rattle.bd_roll.proofs.SeenMarks.{shown_numbers}
use Rattle.bd_recover.proofs.ClaimedCatalogue.{owned, first_free, first_distinct, second_free, second_distinct, third_free, third_distinct, all_taken}
use Rattle.bd_recover.proofs.claims.space_of.Goals as goal

pub claim_owners-requires-clause-free : goal.claim_owners-requires-clause-free
claim_owners-requires-clause-free c = first_free c.args.catalog.now.found.sizes c.args.catalog.now.found.catalogue _ _ _ c.in_ok-space.space
    (owned c.shape-shape.result c.args.catalog.now.found.sizes c.args.catalog.now.found.catalogue _ _ _ c.in_ok-space.space c.extents.result c.args.catalog.now.rules c.shape-shape.ensures c.extents.ensures c.in_ok-space.ensures.uses (shown_numbers _ version_entry c.versions.result.now _ c.versions.ensures) refl refl)

pub claim_owners-requires-clause-distinct : goal.claim_owners-requires-clause-distinct
claim_owners-requires-clause-distinct c = first_distinct c.args.catalog.now.found.sizes c.args.catalog.now.found.catalogue _ _ _ c.in_ok-space.space
    (owned c.shape-shape.result c.args.catalog.now.found.sizes c.args.catalog.now.found.catalogue _ _ _ c.in_ok-space.space c.extents.result c.args.catalog.now.rules c.shape-shape.ensures c.extents.ensures c.in_ok-space.ensures.uses (shown_numbers _ version_entry c.versions.result.now _ c.versions.ensures) refl refl)

pub claim_owners-requires-2-clause-free : goal.claim_owners-requires-2-clause-free
claim_owners-requires-2-clause-free c = second_free c.args.catalog.now.found.sizes c.args.catalog.now.found.catalogue _ _ _ c.in_ok-space.space
    (owned c.shape-shape.result c.args.catalog.now.found.sizes c.args.catalog.now.found.catalogue _ _ _ c.in_ok-space.space c.extents.result c.args.catalog.now.rules c.shape-shape.ensures c.extents.ensures c.in_ok-space.ensures.uses (shown_numbers _ version_entry c.versions.result.now _ c.versions.ensures) (shown_numbers _ volume_entry c.volumes.result.now _ c.volumes.ensures) refl)
    c.claim_owners.new.space c.claim_owners.ensures.taken

pub claim_owners-requires-2-clause-distinct : goal.claim_owners-requires-2-clause-distinct
claim_owners-requires-2-clause-distinct c = second_distinct c.args.catalog.now.found.sizes c.args.catalog.now.found.catalogue _ _ _ c.in_ok-space.space
    (owned c.shape-shape.result c.args.catalog.now.found.sizes c.args.catalog.now.found.catalogue _ _ _ c.in_ok-space.space c.extents.result c.args.catalog.now.rules c.shape-shape.ensures c.extents.ensures c.in_ok-space.ensures.uses (shown_numbers _ version_entry c.versions.result.now _ c.versions.ensures) (shown_numbers _ volume_entry c.volumes.result.now _ c.volumes.ensures) refl)
    c.claim_owners.new.space c.claim_owners.ensures.taken

pub claim_owners-requires-3-clause-free : goal.claim_owners-requires-3-clause-free
claim_owners-requires-3-clause-free c = third_free c.args.catalog.now.found.sizes c.args.catalog.now.found.catalogue _ _ _ c.in_ok-space.space
    (owned c.shape-shape.result c.args.catalog.now.found.sizes c.args.catalog.now.found.catalogue _ _ _ c.in_ok-space.space c.extents.result c.args.catalog.now.rules c.shape-shape.ensures c.extents.ensures c.in_ok-space.ensures.uses (shown_numbers _ version_entry c.versions.result.now _ c.versions.ensures) (shown_numbers _ volume_entry c.volumes.result.now _ c.volumes.ensures) (shown_numbers _ open_entry c.as_slice.result.now _ (ap (map open_entry) c.as_slice.ensures ∙ c.actives.ensures)))
    c.claim_owners.new.space c.claim_owners.ensures.taken
    c.claim_owners-2.new.space c.claim_owners-2.ensures.taken

pub claim_owners-requires-3-clause-distinct : goal.claim_owners-requires-3-clause-distinct
claim_owners-requires-3-clause-distinct c = third_distinct c.args.catalog.now.found.sizes c.args.catalog.now.found.catalogue _ _ _ c.in_ok-space.space
    (owned c.shape-shape.result c.args.catalog.now.found.sizes c.args.catalog.now.found.catalogue _ _ _ c.in_ok-space.space c.extents.result c.args.catalog.now.rules c.shape-shape.ensures c.extents.ensures c.in_ok-space.ensures.uses (shown_numbers _ version_entry c.versions.result.now _ c.versions.ensures) (shown_numbers _ volume_entry c.volumes.result.now _ c.volumes.ensures) (shown_numbers _ open_entry c.as_slice.result.now _ (ap (map open_entry) c.as_slice.ensures ∙ c.actives.ensures)))
    c.claim_owners.new.space c.claim_owners.ensures.taken
    c.claim_owners-2.new.space c.claim_owners-2.ensures.taken

pub returns-clause-owners : goal.returns-clause-owners
returns-clause-owners c = all_taken c.args.catalog.now.found.sizes c.args.catalog.now.found.catalogue _ _ _ c.in_ok-space.space
    (owned c.shape-shape.result c.args.catalog.now.found.sizes c.args.catalog.now.found.catalogue _ _ _ c.in_ok-space.space c.extents.result c.args.catalog.now.rules c.shape-shape.ensures c.extents.ensures c.in_ok-space.ensures.uses (shown_numbers _ version_entry c.versions.result.now _ c.versions.ensures) (shown_numbers _ volume_entry c.volumes.result.now _ c.volumes.ensures) (shown_numbers _ open_entry c.as_slice.result.now _ (ap (map open_entry) c.as_slice.ensures ∙ c.actives.ensures)))
    c.claim_owners.new.space c.claim_owners.ensures.taken
    c.claim_owners-2.new.space c.claim_owners-2.ensures.taken
    c.claim_owners-3.new.space c.claim_owners-3.ensures.taken
