use Rattle.std.proofs.Common.{rules, ◌≡◌, ◌+◌, ◌-◌, length, map, set, ◌∙◌, ap, arith}
use Rattle.bd_roll.specs.declared.rows.ClosedVolume.{ClosedVolume}
use Rattle.bd_roll.specs.Shown.{catalogue_of_contents, open_entry, version_entry, volume_entry}
use Rattle.bd_roll.proofs.LastInPlace.{made, same_entries, same_volume, same_lists_make, last_room-set}
use Rattle.bd_roll.proofs.contents.Contents.reserve.Goals as goal
use Rattle.bd_roll.proofs.contents.Contents.reserve.Goals.{After-reserve-then-count-gt0-2}

-- The last volume, with room for another row and for further extents.
abbrev roomier : After-reserve-then-count-gt0-2 → ClosedVolume
roomier c = record { rows = c.reserve-then-count-gt0.new.self; extents = c.reserve-then-count-gt0-2.new.self }

-- Whatever the last call answered, what is shown stays where the extents of the last volume do.
same : (c : After-reserve-then-count-gt0-2) → (roomier c).extents.numbers ≡ c.index_mut-last.result.now.extents.numbers
    → made c.args.self.now.base c.args.self.now.newest c.args.self.now.phase (map version_entry c.reserve.new.self.items) (map volume_entry (set c.reserve-2.new.self.items (c.len-count.result - 1) (roomier c))) (map open_entry c.reserve-3.new.self.items) ≡ catalogue_of_contents c.args.self.now
same c numbers =
    let x = c.index_mut-last.result.now in
    let items = c.reserve-2.new.self.items in
    let n = c.len-count.result - 1 in
    let old = c.args.self.now in
    same_lists_make old.base old.newest old.phase c.reserve.new.self.items old.versions.items (map volume_entry (set items n (roomier c))) (map volume_entry old.volumes.items)
    c.reserve-3.new.self.items old.actives.items c.in_ok-reserve.ensures.items
    (same_entries items n (roomier c) x c.index_mut-last.ensures.value (same_volume (roomier c) x c.in_ok-reserve-4.ensures.items numbers) ∙ ap (map volume_entry) c.in_ok-reserve-2.ensures.items)
    c.in_ok-reserve-3.ensures.items

pub returns-in_err-reserve-5-clause-same : goal.returns-in_err-reserve-5-clause-same
returns-in_err-reserve-5-clause-same c = same (goal.at.returns-in_err-reserve-5-clause-same c).After-reserve-then-count-gt0-2 c.in_err-reserve-5.ensures.numbers

pub returns-in_ok-reserve-5-clause-same : goal.returns-in_ok-reserve-5-clause-same
returns-in_ok-reserve-5-clause-same c = same (goal.at.returns-in_ok-reserve-5-clause-same c).After-reserve-then-count-gt0-2 c.in_ok-reserve-5.ensures.numbers

pub returns-in_ok-reserve-5-clause-room : goal.returns-in_ok-reserve-5-clause-room
returns-in_ok-reserve-5-clause-room c =
    let v = roomier (goal.at.returns-in_ok-reserve-5-clause-room c).After-reserve-then-count-gt0-2 in
    let items = c.reserve-2.new.self.items in
    let n = c.len-count.result - 1 in
    let last : n + 1 ≡ length items = search rules in
    record {
      versions = search rules;
      one_volume = search rules;
      actives = search rules;
      rows = λ some. omega (arith, last_room-set (λ w. w.rows.spare) v items n last, c.in_ok-reserve-4.ensures.ok);
      extents = λ some. omega (arith, last_room-set (λ w. w.extents.spare) v items n last, c.in_ok-reserve-5.ensures.room);
    }
