use Rattle.std.proofs.Common.{rules, map}
use Rattle.bd_roll.specs.Shown.{version_entry, volume_entry}
use Rattle.bd_roll.specs.Spelling.{read_version, read_volume, spelled_version, spelled_volume}
use Rattle.bd_roll.specs.Widths.{FitsVersion, FitsVolume}
use Rattle.bd_roll.proofs.ReadBack.{version_back, volume_back}
use Rattle.bd_roll.proofs.OneSpelling.{same_rest}
use Rattle.bd_roll.proofs.ReadingContents.{Numbers, none_volumes, none_actives}
use Rattle.bd_roll.proofs.decode.take_contents.Goals as goal

pub returns-in_default-closed : goal.returns-in_default-closed
returns-in_default-closed c =
    let b1 = c.take_numbers.new.cursor in
    let numbers : Numbers c.in-Some.base c.in-Some.newest c.in-Some.count c.args.cursor.now b1 =
    record { so = c.in-Some.ensures.taken; base_fits = search rules; newest_fits = search rules; count_fits = search rules } in
    let none = rw c.in_default-closed.is at c.in_ok-closed.ensures in
    let fewer = rw c.saturating_sub.ensures at none in
    none_volumes c.args.cursor.now c.in-Some.base c.in-Some.newest c.in-Some.count b1 numbers c.in-Some-take_phase.phase c.take_phase.new.cursor c.in-Some-take_phase.ensures.taken
    (map version_entry c.in-Some-retained.versions.items) c.take_many.new.cursor (rw c.in-Some-retained.is at c.in_ok-retained.ensures) fewer

pub returns-in_default-open : goal.returns-in_default-open
returns-in_default-open c =
    let b1 = c.take_numbers.new.cursor in
    let numbers : Numbers c.in-Some.base c.in-Some.newest c.in-Some.count c.args.cursor.now b1 =
    record { so = c.in-Some.ensures.taken; base_fits = search rules; newest_fits = search rules; count_fits = search rules } in
    let closed = rw c.in-Some-closed.is at c.in_ok-closed.ensures in
    none_actives c.args.cursor.now c.in-Some.base c.in-Some.newest c.in-Some.count b1 numbers c.in-Some-take_phase.phase c.take_phase.new.cursor c.in-Some-take_phase.ensures.taken
    (map version_entry c.in-Some-retained.versions.items) c.take_many.new.cursor (rw c.in-Some-retained.is at c.in_ok-retained.ensures)
    (map volume_entry c.in-Some-closed.volumes.items) c.take_many-2.new.cursor (rw c.saturating_sub.ensures at closed)
    (rw c.in_default-open.is at c.in_ok-open.ensures)

pub take_many-requires : goal.take_many-requires
take_many-requires c = same_rest read_version spelled_version FitsVersion version_back

pub take_many-requires-2 : goal.take_many-requires-2
take_many-requires-2 c = same_rest read_volume spelled_volume FitsVolume volume_back
