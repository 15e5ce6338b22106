-- What an opening answers.
use Rattle.std.specs.Prelude.{◌≡◌, ◌⊎◌, ℕ, ◌==◌, Bool, true, false, not, List, replicate, Option, Some, None, Result, Ok, Err, bytes_eq, if◌then◌else◌}
use Rattle.bd_disk.specs.Calls.{Done, Fails, IsIdle}
use Rattle.bd_disk.specs.History.{Flush, History}
use Rattle.bd_disk.specs.Images.{bytes_at}
use Rattle.bd_disk.specs.Made.{GoesOn, IsSettled}
use Rattle.bd_disk.specs.declared.touch.Touch.TheVariants.{Sync}
use Rattle.bd_model.specs.declared.shape.Shape.{Shape as StructShape}
use Rattle.bd_model.specs.declared.place.Place.{Place}
use Rattle.bd_model.specs.declared.place.Place.TheVariants.{Short, Gate, Magic, Number, Shape, Padding}
use Rattle.bd_model.specs.Sizes.{sizes_of, is_shape}
use Rattle.bd_space.specs.Allotment.{TakenExactly, extent_count, held_count}
use Rattle.bd_gate.specs.Superblock.{open_gate, magic, byte_at, four_at, sizes_at}
use Rattle.bd_catalog.specs.Agreement.{Agrees}
use Rattle.bd_roll.specs.Catalogue.{all_extents}
use Rattle.bd_catalog.specs.Opening.{Found, opened, opened_newest}
use Rattle.bd_recover.specs.declared.fault.OpenFault.{OpenFault}
use Rattle.bd_recover.specs.declared.fault.OpenFault.TheVariants.{NotAStore, DiskFault, OutOfMemory}
use Rattle.bd_recover.specs.declared.opening.Opened.{Opened}

-- the answer is the expected one, but for a fault of the disk and want of memory
abbrev pub AnswersRecovery : Result Found Place → Result Opened OpenFault → Type 0
AnswersRecovery expected (Ok made) = expected ≡ Ok made.catalog.found
AnswersRecovery expected (Err (NotAStore place)) = expected ≡ Err place
AnswersRecovery expected (Err DiskFault) = Unit {0}
AnswersRecovery expected (Err OutOfMemory) = Unit {0}

-- a disk without room for a superblock opens on no account
abbrev pub AnswersShort : {T : Type 0} → Result T OpenFault → Type 0
AnswersShort (Ok made) = ⊥
AnswersShort (Err (NotAStore place)) = place ≡ Short
AnswersShort (Err DiskFault) = Unit {0}
AnswersShort (Err OutOfMemory) = Unit {0}

-- whether it is a fault of the disk
abbrev pub is_disk_fault_of_opening : OpenFault → Bool
is_disk_fault_of_opening (NotAStore place) = false
is_disk_fault_of_opening DiskFault = true
is_disk_fault_of_opening OutOfMemory = false

-- what was opened stands on the disk, and a stop leaves the contents and nothing else
pub record Rests (found : Found) (h : History) : Type 0 where
  pub agrees : Agrees found h
  pub settled : IsSettled h

-- the first call is a sync, which answered Ok or failed
pub record SyncsFirst (old new : History) : Type 0 where
  pub synced : History
  pub first : Done Flush old synced ⊎ Fails (IsIdle Sync) old synced
  pub rest : GoesOn synced new

-- the space counts as taken what the catalogue owns, each number once, and nothing is held
pub record HasSpace (made : Opened) : Type 0 where
  pub owners : TakenExactly made.space (all_extents made.catalog.found.catalogue)
  pub extents : extent_count made.space ≡ made.catalog.found.sizes.extents
  pub held : held_count made.space ≡ 0

-- the first of five checks that fails
abbrev pub first_failing : (gate text number shape padding : Bool) → Option Place
first_failing gate text number shape padding =
    if not gate then Some Gate else
    (if not text then Some Magic else
    (if not number then Some Number else
    (if not shape then Some Shape else
    (if not padding then Some Padding else None))))

-- of those that a superblock alone decides
abbrev pub superblock_fault : List ℕ → Option Place
superblock_fault bytes =
    first_failing (byte_at bytes 0 == open_gate) (bytes_eq (bytes_at 1 7 bytes) magic) (four_at bytes 8 == 1) (is_shape (sizes_at bytes))
    (bytes_eq (bytes_at 36 28 bytes) (replicate 28 0))

abbrev pub AnswersSuperblock : List ℕ → Result StructShape Place → Type 0
AnswersSuperblock bytes (Ok shape) = (superblock_fault bytes ≡ None) × (sizes_of shape ≡ sizes_at bytes)
AnswersSuperblock bytes (Err place) = superblock_fault bytes ≡ Some place

-- the shape whose halves the opening goes on with, or what it answers
abbrev pub AnswersShape : List ℕ → Result StructShape OpenFault → Type 0
AnswersShape image (Ok shape) = (sizes_of shape ≡ sizes_at image) × (opened image ≡ opened_newest (sizes_of shape) image)
AnswersShape image (Err (NotAStore place)) = opened image ≡ Err place
AnswersShape image (Err DiskFault) = Unit {0}
AnswersShape image (Err OutOfMemory) = Unit {0}
