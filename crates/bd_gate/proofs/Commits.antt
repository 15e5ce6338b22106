-- The calls of a commit, and what they write.
use Rattle.std.proofs.Common.{◌≡◌, ℕ, zero, suc, ◌+◌, ◌≤◌, Bool, true, false, List, [], ◌∷◌, ◌++◌, append_assoc, refl, sym, ◌∙◌, ap, subst, arith}
use Rattle.bd_disk.specs.Images.{InRange, overwritten}
use Rattle.std.specs.Prelude.{Result, Ok, Err, IsErrAnd}
use Rattle.bd_disk.specs.Calls.{Done, Fails}
use Rattle.bd_disk.specs.History.{Call, History, contents}
use Rattle.bd_disk.specs.Made.{Makes, Stores}
use Rattle.bd_disk.specs.Runs.{Writes}
use Rattle.bd_disk.specs.declared.disk.Disk.{Ghosts}
use Rattle.bd_disk.proofs.AgreeLemmas.{overwritten-none}
use Rattle.bd_disk.proofs.RunLemmas.{wider_writes}
use Rattle.bd_disk.proofs.Traces.{makes_both, makes_one}
use Rattle.bd_model.specs.Sizes.{Sizes, half_bytes, half_place}
use Rattle.bd_gate.specs.Superblock.{open_gate, closed_gate}
use Rattle.bd_gate.specs.Halves.{InFrame, InGate, InHalf}
use Rattle.bd_gate.specs.Commits.{closing_calls, stored_by, FailsWithin, IsFailedCall, IsStored, MakesOrFails, StoresOrFails}

-- a byte before what was written behind it
pub byte_before : (xs : List ℕ) (at byte : ℕ) (bytes : List ℕ) → overwritten (overwritten xs (at + 1) bytes) at (byte ∷ []) ≡ overwritten xs at (byte ∷ bytes)
unfolding overwritten
byte_before [] at byte bytes = refl
byte_before (x ∷ xs) (suc at) byte bytes =
    let e : suc at + 1 ≡ suc (at + 1) = omega arith in
    ap (λ n. overwritten (overwritten (x ∷ xs) n bytes) (suc at) (byte ∷ [])) e ∙ ap (λ (l : List ℕ). x ∷ l) (byte_before xs at byte bytes)
byte_before (x ∷ xs) zero byte bytes = ap (λ (l : List ℕ). byte ∷ l) (overwritten-none (overwritten xs zero bytes) zero)

-- a byte that is written again
byte_again : (xs : List ℕ) (at byte other : ℕ) (bytes : List ℕ) → overwritten (overwritten xs at (other ∷ [])) at (byte ∷ bytes) ≡ overwritten xs at (byte ∷ bytes)
unfolding overwritten
byte_again [] at byte other bytes = refl
byte_again (x ∷ xs) (suc at) byte other bytes = ap (λ (l : List ℕ). x ∷ l) (byte_again xs at byte other bytes)
byte_again (x ∷ xs) zero byte other bytes = ap (λ l. byte ∷ overwritten l zero bytes) (overwritten-none xs zero)

-- whether the half was closed or not, the open gate and the frame stand over it
closed_first : (s : Sizes) (number : ℕ) (was_open : Bool) (frame : List ℕ) {a b : History} → Makes (closing_calls s number was_open) a b
    → overwritten (contents b) (half_place s number) (open_gate ∷ frame) ≡ overwritten (contents a) (half_place s number) (open_gate ∷ frame)
closed_first s number true frame {a} {b} made =
    ap (λ h. overwritten (contents h) (half_place s number) (open_gate ∷ frame)) made.so ∙ byte_again (contents a) (half_place s number) open_gate closed_gate frame
closed_first s number false frame made = ap (λ h. overwritten (contents h) (half_place s number) (open_gate ∷ frame)) made.so

-- the contents after a commit
pub commit_stores : (s : Sizes) (number : ℕ) (was_open : Bool) (frame : List ℕ) {a b c d : History} → Makes (closing_calls s number was_open) a b
    → Stores (half_place s number + 1) frame b c → Stores (half_place s number) (open_gate ∷ []) c d → Stores (half_place s number) (open_gate ∷ frame) a d
commit_stores s number was_open frame {a} {b} {c} {d} closing filling opening = record {
  holds = opening.holds
      ∙ ap (λ image. overwritten image (half_place s number) (open_gate ∷ [])) filling.holds
      ∙ byte_before (contents b) (half_place s number) open_gate frame
      ∙ closed_first s number was_open frame closing;
  settled = opening.settled;
}

-- ---- where it writes

-- a range by another name of its place
pub moved : {D : Type 0} {g : Ghosts D} (at other n : ℕ) {a b : D} → at ≡ other → Writes g (InRange at n) a b → Writes g (InRange other n) a b
moved {D} {g} at other n {a} {b} e writes = subst (λ p. Writes g (InRange p n) a b) e writes

pub stored_moved : (at other : ℕ) {bytes : List ℕ} {a b : History} → at ≡ other → IsStored at bytes a b → IsStored other bytes a b
stored_moved at other {bytes} {a} {b} e stored = subst (λ p. IsStored p bytes a b) e stored

behind_gate : (at size n place : ℕ) → n + 1 ≤ size → InRange (at + 1) n place → InRange at size place
behind_gate at size n place fits r = (omega (arith, r.0), omega (arith, r.1))

gate_itself : (at size place : ℕ) → 1 ≤ size → InRange at 1 place → InRange at size place
gate_itself at size place some r = (r.0, omega (arith, r.1))

-- a gate lies in its half
pub gate_in_half : {D : Type 0} {g : Ghosts D} (s : Sizes) (number : ℕ) {a b : D} → Writes g (InGate s number) a b → Writes g (InHalf s number) a b
gate_in_half s number writes = wider_writes _ (λ place r. gate_itself (half_place s number) (half_bytes s) place (omega arith) r) writes

-- and a frame behind it
pub frame_in_half : {D : Type 0} {g : Ghosts D} (s : Sizes) (number n : ℕ) {a b : D} → n + 1 ≤ half_bytes s → Writes g (InFrame s number n) a b → Writes g (InHalf s number) a b
frame_in_half s number n fits writes = wider_writes _ (λ place r. behind_gate (half_place s number) (half_bytes s) n place fits r) writes

-- ---- where a call failed

-- the exit of a `?`
module _ {T E : Type 0} {a b : History} where
  pub part_made : {calls : List Call} (Q : E → Type 0) (result : Result T E) → IsErrAnd result Q → FailsWithin calls a b → MakesOrFails calls a b result
  part_made Q (Ok value) failed part = absurd failed
  part_made Q (Err fault) failed part = part

  pub part_stored : {at : ℕ} {bytes : List ℕ} (Q : E → Type 0) (result : Result T E) → IsErrAnd result Q → FailsWithin (stored_by at bytes) a b → StoresOrFails at bytes a b result
  part_stored Q (Ok value) failed part = absurd failed
  part_stored Q (Err fault) failed part = part

pub first_fails : (call : Call) (later : List Call) {a b : History} → Fails (IsFailedCall call) a b → FailsWithin (call ∷ later) a b
first_fails call later {a} fails = record { first = []; next = call; later = later; so = refl; before = a; made = record { so = refl }; failed = fails }

pub second_fails : (call next : Call) {a b c : History} → Done call a b → Fails (IsFailedCall next) b c → FailsWithin (call ∷ next ∷ []) a c
second_fails call next {a} {b} done fails = record { first = call ∷ []; next = next; later = []; so = refl; before = b; made = makes_one done; failed = fails }

-- among the first ones, and among those behind them
pub fails_first : {calls : List Call} (more : List Call) {a b : History} → FailsWithin calls a b → FailsWithin (calls ++ more) a b
fails_first more f = record {
  first = f.first;
  next = f.next;
  later = f.later ++ more;
  so = ap (λ l. l ++ more) f.so ∙ append_assoc f.first (f.next ∷ f.later) more;
  before = f.before;
  made = f.made;
  failed = f.failed;
}

pub fails_behind : (calls : List Call) {more : List Call} {a b c : History} → Makes calls a b → FailsWithin more b c → FailsWithin (calls ++ more) a c
fails_behind calls makes f = record {
  first = calls ++ f.first;
  next = f.next;
  later = f.later;
  so = ap (λ l. calls ++ l) f.so ∙ sym (append_assoc calls f.first (f.next ∷ f.later));
  before = f.before;
  made = makes_both makes f.made;
  failed = f.failed;
}

pub fails_moved : (at other : ℕ) {bytes : List ℕ} {a b : History} → at ≡ other → FailsWithin (stored_by at bytes) a b → FailsWithin (stored_by other bytes) a b
fails_moved at other {bytes} {a} {b} e fails = subst (λ p. FailsWithin (stored_by p bytes) a b) e fails
