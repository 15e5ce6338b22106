use Rattle.std.proofs.Common.{ℕ, ◌≡◌, ◌+◌, List, length, map, ◌∙◌, ap, arith}
use Rattle.std.specs.List.{flat_map}
use Rattle.bd_model.specs.Records.{four}
use Rattle.bd_roll.specs.declared.rows.VersionRow.{VersionRow}
use Rattle.bd_roll.specs.declared.rows.ClosedVolume.{ClosedVolume}
use Rattle.bd_roll.specs.declared.rows.ActiveCategory.{ActiveCategory}
use Rattle.bd_roll.specs.Shown.{version_entry, volume_entry, open_entry}
use Rattle.bd_roll.specs.Spelling.{spelled_version, spelled_volume, spelled_active}
use Rattle.bd_roll.specs.Writing.{put_at}
use Rattle.bd_roll.proofs.PutBytes.{length-spelled_parts, written_parts}
use Rattle.bd_roll.proofs.encode.put_contents.Goals as goal
use Rattle.bd_roll.proofs.encode.put_contents.Goals.{After-as_slice, After-put_many-place-2}

pub put_many-place-requires-clause-room : goal.put_many-place-requires-clause-room
put_many-place-requires-clause-room c =
    omega (arith, c.requires.room, length-spelled_parts c.args.contents.now, c.put_head-place.ensures.behind, ap (λ (xs : List VersionRow). length (flat_map spelled_version (map version_entry xs))) c.deref.ensures.value)

pub put_many-place-requires-clause-fit : goal.put_many-place-requires-clause-fit
put_many-place-requires-clause-fit c =
    rw (c.deref.ensures.value) (c.requires.fits.versions.each)

pub put_many-place-requires-2-clause-room : goal.put_many-place-requires-2-clause-room
put_many-place-requires-2-clause-room c =
    omega (
      arith,
      c.requires.room,
      length-spelled_parts c.args.contents.now,
      c.put_head-place.ensures.behind,
      c.put_many-place.ensures.behind,
      ap (λ (xs : List VersionRow). length (flat_map spelled_version (map version_entry xs))) c.deref.ensures.value,
      ap (λ (xs : List ClosedVolume). length (flat_map spelled_volume (map volume_entry xs))) c.deref-2.ensures.value,
    )

pub put_many-place-requires-2-clause-fit : goal.put_many-place-requires-2-clause-fit
put_many-place-requires-2-clause-fit c =
    rw (c.deref-2.ensures.value) (c.requires.fits.volumes)

-- The place behind the volumes.
volumes_end : (c : After-put_many-place-2) → c.put_many-place-2.result ≡ 17 + length (flat_map spelled_version (map version_entry c.args.contents.now.versions.items)) + length (flat_map spelled_volume (map volume_entry c.args.contents.now.volumes.items))
volumes_end c =
    omega (
      arith,
      c.put_head-place.ensures.behind,
      c.put_many-place.ensures.behind,
      c.put_many-place-2.ensures.behind,
      ap (λ (xs : List VersionRow). length (flat_map spelled_version (map version_entry xs))) c.deref.ensures.value,
      ap (λ (xs : List ClosedVolume). length (flat_map spelled_volume (map volume_entry xs))) c.deref-2.ensures.value,
    )

pub put_u32-requires : goal.put_u32-requires
put_u32-requires c = omega (arith, c.requires.room, length-spelled_parts c.args.contents.now, volumes_end (goal.at.put_u32-requires c).After-put_many-place-2)

-- The bytes of the open categories.
actives_long : (c : After-as_slice) → length (flat_map spelled_active (map open_entry c.as_slice.result.now)) ≡ length (flat_map spelled_active (map open_entry c.args.contents.now.actives.items))
actives_long c = ap (λ (xs : List ActiveCategory). length (flat_map spelled_active (map open_entry xs))) c.as_slice.ensures

pub put_many-requires-clause-room : goal.put_many-requires-clause-room
put_many-requires-clause-room c =
    let at = goal.at.put_many-requires-clause-room c in
    omega (arith, c.requires.room, length-spelled_parts c.args.contents.now, volumes_end at.After-put_many-place-2, actives_long at.After-as_slice)

pub put_many-requires-clause-fit : goal.put_many-requires-clause-fit
put_many-requires-clause-fit c =
    rw (c.as_slice.ensures) (c.requires.fits.actives.each)

pub returns-clause-written : goal.returns-clause-written
returns-clause-written c =
    let x = c.args.contents.now in
    let buffer = c.args.into.now in
    let versions : List VersionRow → List ℕ = λ xs. flat_map spelled_version (map version_entry xs) in
    let volumes : List ClosedVolume → List ℕ = λ xs. flat_map spelled_volume (map volume_entry xs) in
    let actives : List ActiveCategory → List ℕ = λ xs. flat_map spelled_active (map open_entry xs) in
    written_parts x buffer c.put_head-place.new.into c.put_many-place.new.into c.put_many-place-2.new.into c.put_u32.new.into c.put_many.new.into
    c.put_many-place.result c.put_many-place-2.result c.put_many.result c.requires.room
    c.put_head-place.ensures.written
    (c.put_many-place.ensures.written
    ∙ ap (λ (p : ℕ). put_at c.put_head-place.new.into p (versions c.deref.result.now)) c.put_head-place.ensures.behind
    ∙ ap (λ (xs : List VersionRow). put_at c.put_head-place.new.into 17 (versions xs)) c.deref.ensures.value)
    (omega (arith, c.put_many-place.ensures.behind, c.put_head-place.ensures.behind, ap (λ (xs : List VersionRow). length (versions xs)) c.deref.ensures.value))
    (c.put_many-place-2.ensures.written ∙ ap (λ (xs : List ClosedVolume). put_at c.put_many-place.new.into c.put_many-place.result (volumes xs)) c.deref-2.ensures.value)
    (omega (arith, c.put_many-place-2.ensures.behind, ap (λ (xs : List ClosedVolume). length (volumes xs)) c.deref-2.ensures.value))
    (c.put_u32.ensures ∙ ap (λ (n : ℕ). put_at c.put_many-place-2.new.into c.put_many-place-2.result (four n)) c.len.ensures)
    (c.put_many.ensures.written ∙ ap (λ (xs : List ActiveCategory). put_at c.put_u32.new.into (c.put_many-place-2.result + 4) (actives xs)) c.as_slice.ensures)
    (omega (arith, c.put_many.ensures.behind, actives_long (goal.at.returns-clause-written c).After-as_slice))

pub returns-clause-behind : goal.returns-clause-behind
returns-clause-behind c =
    let at = goal.at.returns-clause-behind c in
    omega (arith, length-spelled_parts c.args.contents.now, volumes_end at.After-put_many-place-2, c.put_many.ensures.behind, actives_long at.After-as_slice)
