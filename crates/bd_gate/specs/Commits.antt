-- What a commit writes, and its calls.
use Rattle.std.specs.Prelude.{◌≡◌, ℕ, ◌+◌, Bool, true, false, List, [], ◌∷◌, ◌++◌, length, Some, None, Result, Ok, Err}
use Rattle.bd_disk.specs.Calls.{Fails, IsIdle, IsTorn}
use Rattle.bd_disk.specs.History.{Call, Put, Flush, Idle, History}
use Rattle.bd_disk.specs.Made.{Makes, Stores}
use Rattle.bd_disk.specs.declared.touch.Touch.TheVariants.{Write, Sync}
use Rattle.bd_model.specs.Records.{eight}
use Rattle.bd_model.specs.Sizes.{Sizes, half_place}
use Rattle.bd_gate.specs.Superblock.{open_gate, closed_gate}

-- a frame: the turn, the length of the payload, the payload and a closed gate
abbrev pub frame_of : ℕ → List ℕ → List ℕ
frame_of turn payload = turn ∷ (eight (length payload) ++ payload ++ (closed_gate ∷ []))

-- a write and a sync
abbrev pub stored_by : ℕ → List ℕ → List Call
stored_by at bytes = Put at bytes ∷ Flush ∷ []

-- what a call may have done that failed: a write may have left unknown bytes in its range, any other did nothing
abbrev pub IsFailedCall : Call → Call → Type 0
IsFailedCall (Put at bytes) did = IsTorn at (length bytes) (Write at (length bytes)) did
IsFailedCall Flush did = IsIdle Sync did
IsFailedCall (Idle None) did = did ≡ Idle None
IsFailedCall (Idle (Some touch)) did = IsIdle touch did

-- new is old and then the first of these calls, and the one behind them, which failed
pub record FailsWithin (calls : List Call) (old new : History) : Type 0 where
  pub first : List Call
  pub next : Call
  pub later : List Call
  pub so : calls ≡ first ++ (next ∷ later)
  pub before : History
  pub made : Makes first old before
  pub failed : Fails (IsFailedCall next) before new

-- new is old and then these calls; where Failed is answered, a first part of them
abbrev pub MakesOrFails : {T E : Type 0} → List Call → History → History → Result T E → Type 0
MakesOrFails calls old new (Ok value) = Makes calls old new
MakesOrFails calls old new (Err fault) = FailsWithin calls old new

-- new is old and then these two calls; it holds the bytes, and a stop leaves its contents and nothing else
pub record IsStored (at : ℕ) (bytes : List ℕ) (old new : History) : Type 0 where
  pub calls : Makes (stored_by at bytes) old new
  pub stores : Stores at bytes old new

-- so it is, or a first part of the two calls was made and Failed is answered
abbrev pub StoresOrFails : {T E : Type 0} → ℕ → List ℕ → History → History → Result T E → Type 0
StoresOrFails at bytes old new (Ok value) = IsStored at bytes old new
StoresOrFails at bytes old new (Err fault) = FailsWithin (stored_by at bytes) old new

-- a half is closed where it is open
abbrev pub closing_calls : Sizes → ℕ → Bool → List Call
closing_calls s number true = stored_by (half_place s number) (closed_gate ∷ [])
closing_calls s number false = []

-- and then it is filled and opened
abbrev pub commit_calls : Sizes → ℕ → Bool → List ℕ → List Call
commit_calls s number was_open frame =
    closing_calls s number was_open
    ++ (stored_by (half_place s number + 1) frame
    ++ stored_by (half_place s number) (open_gate ∷ []))
