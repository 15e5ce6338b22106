-- What a load of the newest half answers.
use Rattle.std.specs.Prelude.{◌≡◌, ◌⊎◌, ℕ, ◌≤◌, Bool, true, false, List, Some, Result, Ok, Err}
use Rattle.bd_model.specs.declared.place.Place.{Place}
use Rattle.bd_model.specs.declared.place.Place.TheVariants.{Halves as HalvesFail, Payload as PayloadFails}
use Rattle.bd_model.specs.Sizes.{Sizes, payload_room}
use Rattle.bd_gate.specs.Halves.{half_at, newest_half, InFronts, InPayload}
use Rattle.bd_gate.specs.declared.half.GateFault.{GateFault}
use Rattle.bd_gate.specs.declared.half.GateFault.TheVariants.{NoHalf, DiskFault as NotAsked}
use Rattle.bd_catalog.specs.declared.load.LoadFault.{LoadFault}
use Rattle.bd_catalog.specs.declared.load.LoadFault.TheVariants.{Halves, Payload, DiskFault, OutOfMemory}
use Rattle.bd_catalog.specs.Ledger.{Ledger}
use Rattle.bd_catalog.specs.Opening.{Found}

-- what a load answers where no newest half was found
abbrev pub no_half : GateFault → LoadFault
no_half (NoHalf gates turns) = Halves
no_half NotAsked = DiskFault

-- the answer is the expected one, but for a fault of the disk and want of memory
abbrev pub AnswersLoad : Result Found Place → Result Ledger LoadFault → Type 0
AnswersLoad expected (Ok catalog) = expected ≡ Ok catalog.found
AnswersLoad expected (Err Halves) = expected ≡ Err HalvesFail
AnswersLoad expected (Err Payload) = expected ≡ Err PayloadFails
AnswersLoad expected (Err DiskFault) = Unit {0}
AnswersLoad expected (Err OutOfMemory) = Unit {0}

-- whether it is a fault of the disk
abbrev pub is_disk_fault_of_load : LoadFault → Bool
is_disk_fault_of_load Halves = false
is_disk_fault_of_load Payload = false
is_disk_fault_of_load DiskFault = true
is_disk_fault_of_load OutOfMemory = false

-- the place lies in the payload of the newest half of the image, which is no longer than may be
pub record InNewestHalf (s : Sizes) (image : List ℕ) (place : ℕ) : Type 0 where
  pub number : ℕ
  pub newest : newest_half s image ≡ Some number
  pub fits : (half_at s image number).length ≤ payload_room s
  pub inside : InPayload s (half_at s image number) place

-- the places that a load of the image reads
abbrev pub InLoad : Sizes → List ℕ → ℕ → Type 0
InLoad s image place = InFronts s place ⊎ InNewestHalf s image place
