-- The log of the newest half: records behind its payload, each behind a gate of its own; it ends at the first closed gate.
use Rattle.std.specs.Prelude.{◌≡◌, ◌≢◌, ◌⊎◌, ℕ, ◌+◌, ◌≤◌, List, [], ◌∷◌, ◌++◌, length, Some}
use Rattle.bd_disk.specs.History.{Call, History, contents}
use Rattle.bd_disk.specs.Images.{InRange, Agree, AgreeBut, bytes_at}
use Rattle.bd_disk.specs.Made.{IsSure, LeavesSince}
use Rattle.bd_model.specs.Sizes.{Sizes, half_place}
use Rattle.bd_gate.specs.Commits.{stored_by}
use Rattle.bd_gate.specs.Halves.{InHalves, newest_half}
use Rattle.bd_gate.specs.Superblock.{open_gate, byte_at}

-- This half is the newest, and the gate at this place behind its front is closed. Both halves are the same in each image
-- that a stop may leave.
pub record IsLogEnd (s : Sizes) (number place : ℕ) (h : History) : Type 0 where
  pub newest : newest_half s (contents h) ≡ Some number
  pub behind : half_place s number + 10 ≤ place
  pub shut : byte_at (contents h) place ≢ open_gate
  pub sure : IsSure (InHalves s) (contents h) h

-- behind an open gate the frame stands, and its last byte is a closed one
abbrev pub EndsShut : List ℕ → Type 0
EndsShut frame = byte_at (open_gate ∷ frame) (length frame) ≢ open_gate

-- the places of a gate and of a frame of n bytes behind it
abbrev pub InRecord : ℕ → ℕ → ℕ → Type 0
InRecord place n at = InRange place (1 + n) at

-- the gate is closed, and both halves are as they were, but for n bytes behind the gate and the gate itself
pub record KeepsGate (s : Sizes) (place n : ℕ) (old image : List ℕ) : Type 0 where
  pub halves : Agree (λ at. InHalves s at × (InRecord place n at → ⊥)) old image
  pub shut : byte_at image place ≢ open_gate

-- the gate is open, the frame stands behind it, and all else is as it was
pub record IsAppended (place : ℕ) (frame old image : List ℕ) : Type 0 where
  pub gate : byte_at image place ≡ open_gate
  pub there : bytes_at (place + 1) (length frame) image ≡ frame
  pub elsewhere : AgreeBut (InRecord place (length frame)) old image

-- a stop within an append leaves the old end of the log, or the whole record
abbrev pub IsKeptOrAppended : Sizes → ℕ → List ℕ → List ℕ → List ℕ → Type 0
IsKeptOrAppended s place frame old image = KeepsGate s place (length frame) old image ⊎ IsAppended place frame old image

-- so does a stop at any moment since old
abbrev pub KeepsOrAppends : Sizes → ℕ → List ℕ → History → History → Type 0
KeepsOrAppends s place frame old new = LeavesSince (IsKeptOrAppended s place frame (contents old)) old new

-- the frame is written behind the gate, with the next gate at its end, and then the gate is opened
abbrev pub append_calls : ℕ → List ℕ → List Call
append_calls place frame = stored_by (place + 1) frame ++ stored_by place (open_gate ∷ [])
