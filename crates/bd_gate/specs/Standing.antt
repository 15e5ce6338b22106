-- The newest half with its bytes, and what a stop within a commit leaves of two halves.
use Rattle.std.specs.Prelude.{◌≡◌, ◌⊎◌, ℕ, ◌+◌, ◌-◌, ◌%◌, Bool, List, length, take, slice_index, Option, Some, option_map}
use Rattle.bd_disk.specs.Images.{AgreeBut, bytes_at}
use Rattle.bd_disk.specs.History.{History, contents}
use Rattle.bd_disk.specs.Made.{IsSure, LeavesNow, LeavesSince}
use Rattle.bd_model.specs.Sizes.{Sizes, half_bytes, half_place}
use Rattle.bd_gate.specs.Halves.{newest_half, is_open, turn_at, InHalf, InHalves}

-- the bytes of a half behind its gate
abbrev pub behind : Sizes → List ℕ → ℕ → List ℕ
behind s image k = bytes_at (half_place s k + 1) (half_bytes s - 1) image

-- a half by its number and its bytes behind the gate
pub record Standing : Type 0 where
  pub number : ℕ
  pub bytes : List ℕ

-- the newest half; whether the other one is open is no part of it
abbrev pub standing : Sizes → List ℕ → Option Standing
standing s image = option_map (λ k. record { number = k; bytes = behind s image k }) (newest_half s image)

-- a stop leaves the same newest half
abbrev pub SameStanding : Sizes → List ℕ → List ℕ → Type 0
SameStanding s old image = standing s image ≡ standing s old

-- this half is the newest, and its bytes behind the gate begin with the frame
pub record HasFrame (s : Sizes) (number : ℕ) (frame image : List ℕ) : Type 0 where
  pub newest : newest_half s image ≡ Some number
  pub holds : take (length frame) (behind s image number) ≡ frame

-- the newest half as it was, or this one with its frame
abbrev pub IsEither : Sizes → ℕ → List ℕ → List ℕ → List ℕ → Type 0
IsEither s number frame old image = SameStanding s old image ⊎ HasFrame s number frame image

-- this half is the newest with its frame, and everything but this half is as it was
pub record IsCommitted (s : Sizes) (number : ℕ) (frame old image : List ℕ) : Type 0 where
  pub stands : HasFrame s number frame image
  pub elsewhere : AgreeBut (InHalf s number) old image

-- a stop within a commit leaves the newest half as it was, or the whole commit
abbrev pub IsOldHalfOrCommitted : Sizes → ℕ → List ℕ → List ℕ → List ℕ → Type 0
IsOldHalfOrCommitted s number frame old image = SameStanding s old image ⊎ IsCommitted s number frame old image

-- a stop at any moment since old leaves the newest half as it was
abbrev pub KeepsStanding : Sizes → History → History → Type 0
KeepsStanding s old new = LeavesSince (SameStanding s (contents old)) old new

-- or this one, with what stands behind its gate
abbrev pub KeepsOrOpens : Sizes → ℕ → History → History → Type 0
KeepsOrOpens s number old new = LeavesSince (IsEither s number (behind s (contents old) number) (contents old)) old new

-- a stop now leaves this half as the newest, with what stood behind its gate
abbrev pub LeavesOpened : Sizes → ℕ → History → History → Type 0
LeavesOpened s number old new = LeavesNow (HasFrame s number (behind s (contents old) number)) new

-- a stop at any moment since old leaves the newest half as it was, or the whole commit
abbrev pub KeepsOrCommits : Sizes → ℕ → List ℕ → History → History → Type 0
KeepsOrCommits s number frame old new = LeavesSince (IsOldHalfOrCommitted s number frame (contents old)) old new

-- a stop now leaves the whole commit
abbrev pub LeavesCommitted : Sizes → ℕ → List ℕ → History → History → Type 0
LeavesCommitted s number frame old new = LeavesNow (IsCommitted s number frame (contents old)) new

-- The other half is the newest, and this one is open or closed as said. Both are the same in each image that a stop may
-- leave.
pub record IsOlderHalf (s : Sizes) (number : ℕ) (opened : Bool) (h : History) : Type 0 where
  pub newest : newest_half s (contents h) ≡ Some (1 - number)
  pub gate : is_open s (contents h) number ≡ opened
  pub sure : IsSure (InHalves s) (contents h) h

-- the turn that a half has in its place beside the newest
abbrev pub next_turn : Sizes → ℕ → List ℕ → ℕ
next_turn s number image = (turn_at s image (1 - number) + 1) % 3

-- its turn is the next one after that of the newest
abbrev pub IsNextTurn : Sizes → ℕ → List ℕ → Type 0
IsNextTurn s number image = turn_at s image number ≡ next_turn s number image

-- so is the turn with which the frame begins
abbrev pub BeginsNextTurn : Sizes → ℕ → List ℕ → List ℕ → Type 0
BeginsNextTurn s number frame image = slice_index frame 0 ≡ next_turn s number image

-- where it does, this half has the next turn then
abbrev pub BringsNextTurn : Sizes → ℕ → List ℕ → History → History → Type 0
BringsNextTurn s number frame old new = BeginsNextTurn s number frame (contents old) → IsNextTurn s number (contents new)
