-- Where a run of calls reads.
use Rattle.std.proofs.Common.{◌≡◌, ⊎_elim, ℕ, zero, suc, ◌+◌, ◌<◌, ◌≤◌, List, [], ◌∷◌, ◌++◌, Some, None, sym, ◌∙◌, ap, subst, arith}
use Rattle.std.proofs.lemmas.List.{append_cancel_left}
use Rattle.std.proofs.lemmas.Bool.{cases_lt}
use Rattle.std.specs.List.{AllByRecursion}
use Rattle.bd_disk.specs.Images.{InRange}
use Rattle.bd_disk.specs.History.{Call, Put, Flush, Idle, History}
use Rattle.bd_disk.specs.Calls.{Done, Fails, IsIdle}
use Rattle.bd_disk.specs.Looks.{Looks, LooksOnlyAt}
use Rattle.bd_disk.specs.Trace.{shown, upward, places_of, reads, ReadsOnly}
use Rattle.bd_disk.specs.declared.touch.Touch.TheVariants.{Read, Write, Sync}
use Rattle.bd_disk.proofs.Frames.{made_done, made_fails, made_wider, idle_kind}
use Rattle.bd_disk.proofs.Traces.{read_going_on, reads_on}

call_wider : (Places Wider : ℕ → Type 0) → ((place : ℕ) → Places place → Wider place) → (call : Call) → Looks Places call → Looks Wider call
call_wider Places Wider sub (Put at bytes) looks = tt
call_wider Places Wider sub Flush looks = tt
call_wider Places Wider sub (Idle None) looks = tt
call_wider Places Wider sub (Idle (Some (Read at n))) looks = λ place r. sub place (looks place r)
call_wider Places Wider sub (Idle (Some (Write at n))) looks = tt
call_wider Places Wider sub (Idle (Some Sync)) looks = tt

pub looks_wider : {Places : ℕ → Type 0} (Wider : ℕ → Type 0) {a b : History} → ((place : ℕ) → Places place → Wider place) → LooksOnlyAt Places a b → LooksOnlyAt Wider a b
looks_wider {Places} Wider sub f = made_wider (Looks Wider) (call_wider Places Wider sub) f

-- a read that answered Ok, and one that failed
pub read_looks : {at n : ℕ} {a b : History} → Done (Idle (Some (Read at n))) a b → LooksOnlyAt (InRange at n) a b
read_looks done = made_done (λ place r. r) done

pub failed_read_looks : {at n : ℕ} {a b : History} → Fails (IsIdle (Read at n)) a b → LooksOnlyAt (InRange at n) a b
failed_read_looks {at} {n} fails = made_fails (IsIdle (Read at n)) (idle_kind (Looks (InRange at n)) (Read at n) (λ place r. r) tt) fails

all-upward : (P : ℕ → Type 0) (at n : ℕ) → ((place : ℕ) → InRange at n place → P place) → AllByRecursion P (upward at n)
unfolding upward
all-upward P at zero each = tt
all-upward P at (suc n) each = (each at (omega arith, omega arith), all-upward P (at + 1) n (λ place r. each place (omega (arith, r.0), omega (arith, r.1))))

from-upward : (P : ℕ → Type 0) (at n : ℕ) → AllByRecursion P (upward at n) → (place : ℕ) → InRange at n place → P place
unfolding upward
from-upward P at zero all place r = absurd (omega (arith, r.0, r.1))
from-upward P at (suc n) all place r =
    ⊎_elim
    (λ (past : at < place). from-upward P (at + 1) n all.1 place (omega (arith, past), omega (arith, r.1)))
    (λ (here : place ≤ at). subst P (omega (arith, here, r.0)) all.0)
    (cases_lt at place)

-- a call looks only where the places lie that it reads, and the other way round
places_looks : (P : ℕ → Type 0) (call : Call) → (Looks P call → AllByRecursion P (places_of (shown call))) × (AllByRecursion P (places_of (shown call)) → Looks P call)
places_looks P (Put at bytes) = (λ looks. tt, λ all. tt)
places_looks P Flush = (λ looks. tt, λ all. tt)
places_looks P (Idle None) = (λ looks. tt, λ all. tt)
places_looks P (Idle (Some (Read at n))) = (all-upward P at n, from-upward P at n)
places_looks P (Idle (Some (Write at n))) = (λ looks. tt, λ all. tt)
places_looks P (Idle (Some Sync)) = (λ looks. tt, λ all. tt)

all-both : (P : ℕ → Type 0) (xs ys : List ℕ) → AllByRecursion P xs → AllByRecursion P ys → AllByRecursion P (xs ++ ys)
all-both P [] ys f g = g
all-both P (x ∷ xs) ys f g = (f.0, all-both P xs ys f.1 g)

all-going_on : (P : ℕ → Type 0) (calls : List Call) → AllByRecursion (Looks P) calls → AllByRecursion P (read_going_on calls)
unfolding read_going_on
all-going_on P [] all = tt
all-going_on P (call ∷ calls) all = all-both P (read_going_on calls) (places_of (shown call)) (all-going_on P calls all.1) ((places_looks P call).0 all.0)

-- what a run reads lies where it looks
pub reads_within : {Places : ℕ → Type 0} {places : List ℕ} {a b : History} → LooksOnlyAt Places a b → ReadsOnly places a b → AllByRecursion Places places
reads_within {Places} {places} {a} {b} f g =
    let same : read_going_on f.calls ≡ places = append_cancel_left (reads a) _ _ (sym (reads_on a f.calls) ∙ ap reads (sym f.so) ∙ g.so) in
    subst (AllByRecursion Places) same (all-going_on Places f.calls f.each)

-- ---- back from what was read

all-first : (P : ℕ → Type 0) (xs ys : List ℕ) → AllByRecursion P (xs ++ ys) → AllByRecursion P xs
all-first P [] ys all = tt
all-first P (x ∷ xs) ys all = (all.0, all-first P xs ys all.1)

all-last : (P : ℕ → Type 0) (xs ys : List ℕ) → AllByRecursion P (xs ++ ys) → AllByRecursion P ys
all-last P [] ys all = all
all-last P (x ∷ xs) ys all = all-last P xs ys all.1

from-going_on : (P : ℕ → Type 0) (calls : List Call) → AllByRecursion P (read_going_on calls) → AllByRecursion (Looks P) calls
unfolding read_going_on
from-going_on P [] all = tt
from-going_on P (call ∷ calls) all = ((places_looks P call).1 (all-last P (read_going_on calls) (places_of (shown call)) all), from-going_on P calls (all-first P (read_going_on calls) (places_of (shown call)) all))

-- a run looks where the places lie that it reads
pub looks_from : (Places : ℕ → Type 0) {places : List ℕ} {a b : History} → AllByRecursion Places places → ReadsOnly places a b → LooksOnlyAt Places a b
looks_from Places {places} {a} {b} all f =
    let same : read_going_on f.made.calls ≡ places = append_cancel_left (reads a) _ _ (sym (reads_on a f.made.calls) ∙ ap reads (sym f.made.so) ∙ f.so) in
    record { calls = f.made.calls; so = f.made.so; each = from-going_on Places f.made.calls (subst (AllByRecursion Places) (sym same) all) }
