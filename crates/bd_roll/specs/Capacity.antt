-- The room that was made in the lists of a catalogue in memory.
use Rattle.std.specs.Prelude.{◌-◌, ◌≤◌, ◌<◌, ℕ, List, [], ◌∷◌, length}
use Rattle.bd_roll.specs.declared.contents.Contents.{Contents}
use Rattle.bd_roll.specs.declared.rows.ClosedVolume.{ClosedVolume}

-- how many more versions, volumes and open categories fit before memory has to be taken, and how many more rows and
-- extents in the last volume, none where there is no volume
pub record Room : Type 0 where
  pub versions : ℕ
  pub volumes : ℕ
  pub actives : ℕ
  pub rows : ℕ
  pub extents : ℕ

-- the room in the last volume
abbrev pub last_room : (ClosedVolume → ℕ) → List ClosedVolume → ℕ
last_room room [] = 0
last_room room (v ∷ []) = room v
last_room room (v ∷ w ∷ vs) = last_room room (w ∷ vs)

abbrev pub room_of : Contents → Room
room_of c = record {
  versions = c.versions.cap - c.versions.len;
  volumes = c.volumes.cap - c.volumes.len;
  actives = c.actives.spare;
  rows = last_room (λ v. v.rows.spare) c.volumes.items;
  extents = last_room (λ v. v.extents.spare) c.volumes.items;
}

-- room for one more version, volume, open category and row, and for this many more extents
pub record IsRoom (count : ℕ) (volumes : ℕ) (room : Room) : Type 0 where
  pub versions : 1 ≤ room.versions
  pub one_volume : 1 ≤ room.volumes
  pub actives : 1 ≤ room.actives
  pub rows : 0 < volumes → 1 ≤ room.rows
  pub extents : 0 < volumes → count ≤ room.extents

abbrev pub RoomIs : ℕ → Contents → Type 0
RoomIs count c = IsRoom count (length c.volumes.items) (room_of c)
