-- How the calls of a disk in memory end.
use Rattle.std.proofs.Common.{◌≡◌, inl, inr, ⊎_elim, ℕ, ◌+◌, ◌≤◌, List, length, Bool, true, false, if◌then◌else◌, Some, None, Result, Ok, Err, OnErr, sym, ◌∙◌, ap, subst, arith}
use Rattle.bd_disk.specs.Images.{InRange, bytes_at}
use Rattle.bd_disk.specs.History.{Call, Put, Flush, Idle, clock, contents, IsDirty}
use Rattle.bd_disk.specs.Calls.{Done, Fails}
use Rattle.bd_disk.specs.Made.{Made, IsNoWrite}
use Rattle.bd_disk.specs.declared.touch.Touch.TheVariants.{Sync}
use Rattle.bd_disk.specs.Memory.{Memory, IsSetToFail, IsListed, IsRefused, IsTooLate, MustFail, Succeeds, FailsAs, Tears}
use Rattle.bd_disk.proofs.AgreeLemmas.{length-bytes_at, overwritten_same}
use Rattle.bd_disk.proofs.Frames.{made_done, made_fails}

pub done : {call : Call} {old new : Memory} → Succeeds call old new → Done call old.history new.history
done s = record { in_time = s.listed.in_time; so = s.listed.history }

pub failed : (May : Call → Type 0) {call : Call} {old new : Memory} → May call → May (Idle None) → FailsAs call old new → Fails May old.history new.history
failed May {call} {old} {new} may none f =
    ⊎_elim
    (λ (set : IsSetToFail old.failing (clock old.history) × IsListed call old new). inl (call, may, record { in_time = set.1.in_time; so = set.1.history }))
    (λ other. ⊎_elim (λ (r : IsRefused old new). inl (Idle None, none, record { in_time = r.in_time; so = r.history })) (λ (l : IsTooLate old new). inr (l.last, l.history)) other) f.cause

-- and one that answered Failed had
pub has_cause : {call : Call} {old new : Memory} → FailsAs call old new → MustFail old new
has_cause {call} {old} {new} f =
    ⊎_elim (λ (set : IsSetToFail old.failing (clock old.history) × IsListed call old new). inl set.0)
    (λ other. inr (⊎_elim (λ (r : IsRefused old new). inr (omega (arith, r.refused))) (λ (l : IsTooLate old new). inl l.last) other)) f.cause

torn_dirty : (at n : ℕ) (old new : Memory) → at + n ≤ length (contents old.history) → IsListed (Put at (bytes_at at n (contents old.history))) old new → (place : ℕ) → InRange at n place → IsDirty new.history place
torn_dirty at n old new fits listed place r =
    subst (λ h. IsDirty h place) (sym listed.history) (inl (r.0, omega (arith, r.1, length-bytes_at at n (contents old.history))))

-- a write that failed, where the range holds what it held
pub tears : (at n : ℕ) {old new : Memory} → at + n ≤ length (contents old.history) → FailsAs (Put at (bytes_at at n (contents old.history))) old new → Tears at n old new
tears at n {old} {new} fits f =
    ⊎_elim
    (λ (set : IsSetToFail old.failing (clock old.history) × IsListed (Put at (bytes_at at n (contents old.history))) old new). record { kept = ap contents set.1.history ∙ overwritten_same (contents old.history) at n; dirty = λ room time. torn_dirty at n old new fits set.1 })
    (λ other.
    ⊎_elim (λ (r : IsRefused old new). record { kept = ap contents r.history; dirty = λ room time place in_range. absurd (omega (arith, r.refused, room)) })
    (λ (l : IsTooLate old new). record { kept = ap contents l.history; dirty = λ room time place in_range. absurd (omega (arith, l.last, time)) }) other) f.cause

-- ---- as contracts see them: the disk was old, of which h is the log

pub succeeded : {Kind : Call → Type 0} {call : Call} {h old new : Memory} → Kind call → h ≡ old → Succeeds call h new → Made Kind old.history new.history
succeeded {Kind} {call} {h} {old} {new} kind is s = subst (λ (m : Memory). Made Kind m.history new.history) is (made_done kind (done s))

pub not_succeeded : {Kind : Call → Type 0} {call : Call} {h old new : Memory} → Kind call → Kind (Idle None) → h ≡ old → FailsAs call h new → Made Kind old.history new.history
not_succeeded {Kind} {call} {h} {old} {new} kind none is f = subst (λ (m : Memory). Made Kind m.history new.history) is (made_fails Kind (λ made k. k) (failed Kind kind none f))

-- a sync that was set to fail is idle
pub no_write_synced : (fails : Bool) (call : Call) → call ≡ (if fails then Idle (Some Sync) else Flush) → IsNoWrite call
no_write_synced true call is = subst IsNoWrite (sym is) tt
no_write_synced false call is = subst IsNoWrite (sym is) tt

pub on_err : {T E : Type 0} {P : Type 0} (r : Result T E) → P → OnErr r P
on_err (Ok x) p = tt
on_err (Err e) p = p

-- a write that was to put its own bytes, or those that stood there where it was set to fail
pub torn_as_set : (fails : Bool) (at : ℕ) (bytes there from : List ℕ) {h old new : Memory} → (IsSetToFail h.failing (clock h.history) → fails ≡ true) → bytes ≡ (if fails then there else from) → h ≡ old → FailsAs (Put at bytes) h new → FailsAs (Put at there) old new
torn_as_set true at bytes there from {h} {old} {new} set is same f = subst (λ b. FailsAs (Put at b) old new) is (subst (λ (m : Memory). FailsAs (Put at bytes) m new) same f)
torn_as_set false at bytes there from {h} {old} {new} set is same f =
    subst (λ (m : Memory). FailsAs (Put at there) m new) same (record {
      cause = ⊎_elim (λ (was : IsSetToFail h.failing (clock h.history) × IsListed (Put at bytes) h new). absurd (let e : false ≡ true = set was.0 in cc)) (λ other. inr other) f.cause;
      faults = f.faults;
    })

pub length_put : (fails : Bool) (n : ℕ) (there from : List ℕ) → length there ≡ n → length from ≡ n → length (if fails then there else from) ≡ n
length_put true n there from e f = e
length_put false n there from e f = f
