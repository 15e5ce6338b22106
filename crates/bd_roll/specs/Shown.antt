-- Rows and lists as entries of a catalogue.
use Rattle.std.specs.Prelude.{map}
use Rattle.bd_roll.specs.declared.rows.VersionRow.{VersionRow}
use Rattle.bd_roll.specs.declared.rows.ClosedVolume.{ClosedVolume}
use Rattle.bd_roll.specs.declared.rows.ActiveCategory.{ActiveCategory}
use Rattle.bd_roll.specs.declared.contents.Contents.{Contents}
use Rattle.bd_roll.specs.Catalogue.{Catalogue, VersionEntry, VolumeEntry, OpenEntry, entry_with}

abbrev pub version_entry : VersionRow → VersionEntry
version_entry v = entry_with v.length v.chunks v.fresh v.recipe.numbers

abbrev pub volume_entry : ClosedVolume → VolumeEntry
volume_entry v = record { rows = v.rows.items; extents = v.extents.numbers }

abbrev pub open_entry : ActiveCategory → OpenEntry
open_entry a = record { row = a.row; extents = a.extents.numbers }

abbrev pub catalogue_of_contents : Contents → Catalogue
catalogue_of_contents c = record {
  base = c.base;
  newest = c.newest;
  phase = c.phase;
  versions = map version_entry c.versions.items;
  volumes = map volume_entry c.volumes.items;
  actives = map open_entry c.actives.items;
}
