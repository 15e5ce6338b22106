-- What a record of the log tells of a step, and what it makes of a catalogue.
use Rattle.std.specs.Prelude.{ℕ, ◌+◌, ◌<◌, ◌^◌, ◌==◌, ◌&&◌, ◌||◌, Bool, List, [], ◌∷◌, ◌++◌, drop, get_or, length, nat_lt, bytes_eq, Option, Some, None, if◌then◌else◌}
use Rattle.bd_model.specs.Records.{eight}
use Rattle.bd_model.specs.Sizes.{Sizes}
use Rattle.bd_roll.specs.Catalogue.{Catalogue, VersionEntry, OpenEntry}
use Rattle.bd_roll.specs.Growing.{after_backup}
use Rattle.bd_roll.specs.Rules.{obeys}
use Rattle.bd_roll.specs.Spelling.{read_four, read_eight, read_list, read_version, spelled_version, spelled_extents}
use Rattle.bd_roll.specs.Splitting.{after_expire}
use Rattle.bd_roll.specs.Widths.{FitList, FitsFour, FitsVersion}

-- a version, with bytes and extents of its fresh chunks; or that the oldest version goes
pub data LogEntry : Type 0 where
  Grows : (version : VersionEntry) (bytes : ℕ) (extents : List ℕ) → LogEntry
  Drops : LogEntry

abbrev pub spelled_log_entry : LogEntry → List ℕ
spelled_log_entry (Grows version bytes extents) = 1 ∷ (spelled_version version ++ (eight bytes ++ spelled_extents extents))
spelled_log_entry Drops = 2 ∷ []

-- the category of the fresh chunks that a record tells of, where there are some
abbrev pub told_active : ℕ → VersionEntry → ℕ → List ℕ → List OpenEntry
told_active start version bytes extents =
    if nat_lt 0 version.fresh then record { row = record { start = start; chunks = version.fresh; bytes = bytes }; extents = extents } ∷ [] else []

-- the catalogue after the step
abbrev pub after_entry : Catalogue → LogEntry → Catalogue
after_entry c (Grows version bytes extents) = after_backup c version (told_active (c.newest + 1) version bytes extents)
after_entry c Drops = after_expire c

-- nothing is told of fresh chunks where there are none, and something is there to go
abbrev pub is_told : Catalogue → LogEntry → Bool
is_told c (Grows version bytes extents) = nat_lt 0 version.fresh || (bytes == 0 && length extents == 0)
is_told c Drops = nat_lt 0 (length c.versions)

-- a step that can be applied: the catalogue after it obeys the rules
abbrev pub applies : Sizes → Catalogue → LogEntry → Bool
applies s c e = is_told c e && obeys s (after_entry c e)

-- What follows reads a record off any bytes. Only what spells the bytes again is taken.
abbrev pub read_grows : List ℕ → LogEntry
read_grows bytes =
    let version = read_version bytes in
    let size = read_eight version.rest in
    let extents = read_list read_four size.rest in
    Grows version.it size.it extents.it

abbrev pub read_entry : List ℕ → LogEntry
read_entry bytes = if get_or bytes 0 0 == 1 then read_grows (drop 1 bytes) else Drops

-- the catalogue after the step that these bytes tell; none where they tell none, or it can't be applied
abbrev pub applied : Sizes → Catalogue → List ℕ → Option Catalogue
applied s c bytes =
    let e = read_entry bytes in
    if bytes_eq (spelled_log_entry e) bytes && applies s c e then Some (after_entry c e) else None

-- a record whose numbers fit the fields that spell them
abbrev pub FitsFields : LogEntry → Type 0
FitsFields (Grows version bytes extents) = FitsVersion version × (bytes < 2 ^ 64) × FitList FitsFour extents
FitsFields Drops = Unit {0}
