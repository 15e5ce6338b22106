-- A write or a sync that failed read nothing.
use Rattle.std.proofs.Common.{◌≡◌, ℕ, List, [], ◌++◌, length, refl, ap, subst, ◌∙◌, ⊎_elim, Option, Some, None}
use Rattle.bd_disk.specs.declared.touch.Touch.{Touch}
use Rattle.bd_disk.specs.declared.touch.Touch.TheVariants.{Write, Sync}
use Rattle.bd_disk.specs.History.{History, Call, Put, Idle}
use Rattle.bd_disk.specs.Calls.{Done, Fails, IsIdle, IsTorn}
use Rattle.bd_disk.specs.Made.{Touches}
use Rattle.bd_disk.specs.Trace.{ReadsOnly, reads, places_of}
use Rattle.bd_disk.proofs.Frames.{made_done}
use Rattle.bd_disk.proofs.Traces.{reads_same, write_reads}

idle_reads : (touch : Option Touch) {a b : History} → places_of touch ≡ [] → Touches (λ place. Unit {0}) (Idle touch) → Done (Idle touch) a b → ReadsOnly [] a b
idle_reads touch {a} none kind done = record { made = made_done kind done; so = ap reads done.so ∙ ap (λ xs. reads a ++ xs) none }

torn_reads : (at n : ℕ) (call : Call) {a b : History} → IsTorn at n (Write at n) call → Done call a b → ReadsOnly [] a b
torn_reads at n call {a} {b} torn done =
    ⊎_elim
    (λ (t : (bytes : List ℕ) × (length bytes ≡ n) × (call ≡ Put at bytes)). write_reads (subst (λ k. Done k a b) t.2 done))
    (λ (idle : IsIdle (Write at n) call). ⊎_elim
    (λ e. idle_reads (Some (Write at n)) refl (λ place r. tt) (subst (λ k. Done k a b) e done))
    (λ e. idle_reads None refl tt (subst (λ k. Done k a b) e done))
    idle)
    torn

pub failed_write_reads : {at n : ℕ} {a b : History} → Fails (IsTorn at n (Write at n)) a b → ReadsOnly [] a b
failed_write_reads {at} {n} {a} {b} fails = ⊎_elim (λ f. torn_reads at n f.0 f.1 f.2) (λ f. reads_same f.1) fails

pub failed_sync_reads : {a b : History} → Fails (IsIdle Sync) a b → ReadsOnly [] a b
failed_sync_reads {a} {b} fails =
    ⊎_elim
    (λ (f : (call : Call) × IsIdle Sync call × Done call a b). ⊎_elim
    (λ e. idle_reads (Some Sync) refl tt (subst (λ k. Done k a b) e f.2))
    (λ e. idle_reads None refl tt (subst (λ k. Done k a b) e f.2))
    f.1)
    (λ f. reads_same f.1)
    fails
