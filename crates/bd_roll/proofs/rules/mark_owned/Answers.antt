use Rattle.std.proofs.Common.{ℕ, List, map, sym, ◌∙◌, ap, is_some}
use Rattle.std.specs.List.{flat_map}
use Rattle.bd_roll.specs.declared.contents.Contents.{Contents}
use Rattle.bd_roll.specs.Catalogue.{VersionEntry, VolumeEntry, OpenEntry}
use Rattle.bd_roll.specs.Checked.{marked}
use Rattle.bd_roll.specs.Shown.{version_entry, volume_entry, open_entry}
use Rattle.bd_roll.proofs.SeenMarks.{shown_numbers, first_refused, second_refused, third_decides, is_some-cond}
use Rattle.bd_roll.proofs.rules.mark_owned.Goals as goal

abbrev of_versions : Contents → List ℕ
of_versions x = flat_map (λ e. e.extents) (map version_entry x.versions.items)

abbrev of_volumes : Contents → List ℕ
of_volumes x = flat_map (λ e. e.extents) (map volume_entry x.volumes.items)

abbrev of_actives : Contents → List ℕ
of_actives x = flat_map (λ e. e.extents) (map open_entry x.actives.items)

pub returns-then-not-mark_owners : goal.returns-then-not-mark_owners
returns-then-not-mark_owners c =
    let x = c.args.contents.now in
    let versions = shown_numbers (λ (e : VersionEntry). e.extents) version_entry c.deref.result.now (map version_entry x.versions.items) (ap (map version_entry) c.deref.ensures.value) in
    first_refused c.args.seen.now (of_versions x) (of_volumes x) (of_actives x) (ap (marked c.args.seen.now) versions ∙ c.if-not-mark_owners.ensures)

pub returns-then-not-mark_owners-2 : goal.returns-then-not-mark_owners-2
returns-then-not-mark_owners-2 c =
    let x = c.args.contents.now in
    let versions = shown_numbers (λ (e : VersionEntry). e.extents) version_entry c.deref.result.now (map version_entry x.versions.items) (ap (map version_entry) c.deref.ensures.value) in
    let volumes = shown_numbers (λ (e : VolumeEntry). e.extents) volume_entry c.deref-2.result.now (map volume_entry x.volumes.items) (ap (map volume_entry) c.deref-2.ensures.value) in
    second_refused c.args.seen.now (of_versions x) (of_volumes x) (of_actives x) c.mark_owners.new.seen
    (ap (marked c.args.seen.now) versions ∙ c.if-not-mark_owners.ensures)
    (ap (marked c.mark_owners.new.seen) volumes ∙ c.if-not-mark_owners-2.ensures)

pub returns : goal.returns
returns c =
    let x = c.args.contents.now in
    let versions = shown_numbers (λ (e : VersionEntry). e.extents) version_entry c.deref.result.now (map version_entry x.versions.items) (ap (map version_entry) c.deref.ensures.value) in
    let volumes = shown_numbers (λ (e : VolumeEntry). e.extents) volume_entry c.deref-2.result.now (map volume_entry x.volumes.items) (ap (map volume_entry) c.deref-2.ensures.value) in
    let actives = shown_numbers (λ (e : OpenEntry). e.extents) open_entry c.as_slice.result.now (map open_entry x.actives.items) (ap (map open_entry) c.as_slice.ensures) in
    sym (is_some-cond c.mark_owners-3.result c.mark_owners-3.new.seen)
    ∙ ap is_some (sym c.mark_owners-3.ensures ∙ ap (marked c.mark_owners-2.new.seen) (sym actives))
    ∙ third_decides c.args.seen.now (of_versions x) (of_volumes x) (of_actives x) c.mark_owners.new.seen c.mark_owners-2.new.seen
    (ap (marked c.args.seen.now) versions ∙ c.if-not-mark_owners.ensures)
    (ap (marked c.mark_owners.new.seen) volumes ∙ c.if-not-mark_owners-2.ensures)
