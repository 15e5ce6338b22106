-- What each command does to a store, in one table, a line a command. What is promised of a command goes by its deed.
use Rattle.std.specs.Prelude.{ℕ, List, Option, Some, None}
use Rattle.bd_model.specs.declared.command.Command.{Command}
use Rattle.bd_model.specs.declared.command.Command.TheVariants.{Backup, Restore, Expire, Reorganise, Scrub, List as Listing}
use Rattle.bd_catalog.specs.Opening.{Found}

-- The first three take a version in, give one back and give some up; the others keep all versions.
pub data Deed : Type 0 where
  -- one version more, of the file under this name
  TakesIn : (source : List ℕ) → Deed
  -- the bytes of this version go to the file under this name
  GivesBack : (version : ℕ) → (target : List ℕ) → Deed
  -- so many of the oldest versions go
  GivesUp : (count : ℕ) → Deed
  -- the store is arranged
  Settles : Deed
  -- all that is stored is looked at
  Checks : Deed
  -- what the catalogue says is told
  Tells : Deed

-- what a command does to a store that is found so
abbrev pub deed_of : Found → Command → Deed
deed_of found (Backup name) = TakesIn name
deed_of found (Restore v name) = GivesBack v name
deed_of found Expire = GivesUp 1
deed_of found Reorganise = Settles
deed_of found Scrub = Checks
deed_of found Listing = Tells

-- ---- files

-- the name that a command reads
abbrev pub source_of : Command → Option (List ℕ)
source_of (Backup name) = Some name
source_of (Restore v name) = None
source_of Expire = None
source_of Reorganise = None
source_of Scrub = None
source_of Listing = None

-- the name that a command writes
abbrev pub target_of : Command → Option (List ℕ)
target_of (Backup name) = None
target_of (Restore v name) = Some name
target_of Expire = None
target_of Reorganise = None
target_of Scrub = None
target_of Listing = None
