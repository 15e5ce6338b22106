-- What contracts see of a catalogue that is held in memory.
use Rattle.std.specs.Prelude.{◌≡◌, ◌+◌, ◌≤◌, ◌<◌, ℕ, length, false, IsTrue}
use Rattle.bd_model.specs.Limits.{IsShape}
use Rattle.bd_model.specs.Sizes.{Sizes, half_bytes, half_place, payload_room}
use Rattle.bd_gate.specs.Halves.{Half, log_place, half_of}
use Rattle.bd_roll.specs.Capacity.{IsRoom, Room}
use Rattle.bd_roll.specs.Catalogue.{Catalogue}
use Rattle.bd_catalog.specs.Opening.{Found}
use Rattle.bd_roll.specs.Spelling.{spelled}
use Rattle.bd_roll.specs.Rules.{obeys}

-- what an opening finds, and the room that was made; the catalogue obeys the rules for the sizes, which are a shape's
pub record Ledger : Type 0 where
  pub found : Found
  pub room : Room
  pub rules : IsTrue (obeys found.sizes found.catalogue)
  pub shaped : IsShape found.sizes.extent found.sizes.extents found.sizes.retain found.sizes.min found.sizes.bits found.sizes.max

-- the half is one of the two, its turn is one of the three, and its log begins behind its payload and ends within it
pub record IsPlaced (s : Sizes) (half : Half) (log_end : ℕ) : Type 0 where
  pub number : half.number ≤ 1
  pub turn : half.turn ≤ 2
  pub begins : log_place s half ≤ log_end
  pub ends : log_end < half_place s half.number + half_bytes s

-- the catalogue has its place, and the buffer has room for a payload with what stands round it in a half
pub record HasItsPlace (s : Sizes) (half : Half) (log_end buffer : ℕ) : Type 0 where
  pub place : IsPlaced s half log_end
  pub frame : buffer ≡ payload_room s + 10

-- a catalogue that stands in half 0 alone, behind it an empty log
abbrev pub half_zero : Catalogue → Half
half_zero c = half_of 0 0 (length (spelled c)) false

abbrev pub found_in : Sizes → Half → Catalogue → ℕ → Found
found_in s half c log_end = record { sizes = s; half = half; catalogue = c; log_end = log_end }

abbrev pub found_alone : Sizes → Catalogue → Found
found_alone s c = found_in s (half_zero c) c (log_place s (half_zero c))

-- room for one step: the extents may be as many as there are
abbrev pub HasRoom : Ledger → Type 0
HasRoom ledger = IsRoom ledger.found.sizes.extents (length ledger.found.catalogue.volumes) ledger.room
