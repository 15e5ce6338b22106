-- Which half is the newest, by two gates and two turns, and where two halves of one size lie.
use Rattle.std.proofs.Common.{◌≡◌, ◌≢◌, ◌⊎◌, inl, inr, ℕ, zero, suc, ◌+◌, ◌-◌, ◌*◌, ◌%◌, ◌<◌, ◌≤◌, Bool, true, false, cond, ◌&&◌, eqb, leb, List, Option, Some, None, refl, sym, ◌∙◌, ap, arith, eq-eqb, ne_eqb, le-leb}
use Rattle.std.proofs.lemmas.Bool.Decides.{nat_tests}
use Rattle.bd_gate.specs.Superblock.{byte_at}
use Rattle.bd_gate.specs.Halves.{newer, newest_by}

-- ---- by numbers

alone : (t n m : ℕ) → cond (leb t 2) (Some n) None ≡ Some m → (t ≤ 2) × (n ≡ m)
alone t n m e = (grind (arith, nat_tests), grind (arith, nat_tests))

both_turns : (t0 t1 m : ℕ) → cond (leb t0 2 && leb t1 2) (newer t0 t1) None ≡ Some m → (t0 ≤ 2) × (t1 ≤ 2)
both_turns t0 t1 m e = (grind (arith, nat_tests), grind (arith, nat_tests))

-- the newest half is open, and its turn is a turn
pub first_newest : (o0 : Bool) (t0 : ℕ) (o1 : Bool) (t1 : ℕ) → newest_by o0 t0 o1 t1 ≡ Some 0 → (o0 ≡ true) × (t0 ≤ 2)
unfolding newest_by
first_newest true t0 true t1 e = (refl, (both_turns t0 t1 0 e).0)
first_newest true t0 false t1 e = (refl, (alone t0 0 0 e).0)
first_newest false t0 true t1 e = absurd (let h = (alone t1 1 0 e).1 in omega (arith, h))
first_newest false t0 false t1 e = absurd (cc)

pub second_newest : (o0 : Bool) (t0 : ℕ) (o1 : Bool) (t1 : ℕ) → newest_by o0 t0 o1 t1 ≡ Some 1 → (o1 ≡ true) × (t1 ≤ 2)
unfolding newest_by
second_newest true t0 true t1 e = (refl, (both_turns t0 t1 1 e).1)
second_newest true t0 false t1 e = absurd (let h = (alone t0 0 1 e).1 in omega (arith, h))
second_newest false t0 true t1 e = (refl, (alone t1 1 1 e).0)
second_newest false t0 false t1 e = absurd (cc)

abbrev pub IsNoneOrHalf : Option ℕ → Type 0
IsNoneOrHalf found = (found ≡ None) ⊎ ((found ≡ Some 0) ⊎ (found ≡ Some 1))

if_turn : (t n : ℕ) → IsNoneOrHalf (Some n) → IsNoneOrHalf (cond (leb t 2) (Some n) None)
if_turn t n h = elim (leb t 2) as (λ b. IsNoneOrHalf (cond b (Some n) None)) [ true ↦ h | false ↦ inl refl ]

newer_half : (t0 t1 : ℕ) → IsNoneOrHalf (newer t0 t1)
newer_half t0 t1 =
    elim (eqb t1 ((t0 + 1) % 3)) as (λ b. IsNoneOrHalf (cond b (Some 1) (cond (eqb t0 ((t1 + 1) % 3)) (Some 0) None))) [
      | true ↦ inr (inr refl)
      | false ↦ elim (eqb t0 ((t1 + 1) % 3)) as (λ b. IsNoneOrHalf (cond b (Some 0) None)) [ true ↦ inr (inl refl) | false ↦ inl refl ]
    ]

-- there is none, or it is one of the two
pub none_or_half : (o0 : Bool) (t0 : ℕ) (o1 : Bool) (t1 : ℕ) → IsNoneOrHalf (newest_by o0 t0 o1 t1)
unfolding newest_by
none_or_half true t0 true t1 = elim (leb t0 2 && leb t1 2) as (λ b. IsNoneOrHalf (cond b (newer t0 t1) None)) [ true ↦ newer_half t0 t1 | false ↦ inl refl ]
none_or_half true t0 false t1 = if_turn t0 0 (inr (inl refl))
none_or_half false t0 true t1 = if_turn t1 1 (inr (inr refl))
none_or_half false t0 false t1 = inl refl

first_alone : (t0 t1 : ℕ) → t0 ≤ 2 → newest_by true t0 false t1 ≡ Some 0
unfolding newest_by
first_alone t0 t1 le = rw (le-leb t0 2 le)

second_alone : (t0 t1 : ℕ) → t1 ≤ 2 → newest_by false t0 true t1 ≡ Some 1
unfolding newest_by
second_alone t0 t1 le = rw (le-leb t1 2 le)

next : (t : ℕ) → t ≤ 2 → ((t + 1) % 3 ≤ 2) × (((t + 1) % 3 + 1) % 3 ≢ t)
next zero le = (omega arith, omega arith)
next (suc zero) le = (omega arith, omega arith)
next (suc (suc zero)) le = (omega arith, omega arith)
next (suc (suc (suc t))) le = absurd (omega arith)

second_next : (t0 t1 : ℕ) → t0 ≤ 2 → t1 ≡ (t0 + 1) % 3 → newest_by true t0 true t1 ≡ Some 1
unfolding newest_by
second_next t0 t1 le is =
    let next_le : t1 ≤ 2 = omega (arith, (next t0 le).0) in
    rw (le-leb t0 2 le, le-leb t1 2 next_le, eq-eqb t1 ((t0 + 1) % 3) is)

first_next : (t0 t1 : ℕ) → t1 ≤ 2 → t0 ≡ (t1 + 1) % 3 → newest_by true t0 true t1 ≡ Some 0
unfolding newest_by
first_next t0 t1 le is =
    let next_le : t0 ≤ 2 = omega (arith, (next t1 le).0) in
    let other : t1 ≡ (t0 + 1) % 3 → ⊥ = λ e. (next t1 le).1 (sym (e ∙ ap (λ t. (t + 1) % 3) is)) in
    rw (le-leb t0 2 next_le, le-leb t1 2 le, ne_eqb t1 ((t0 + 1) % 3) other, eq-eqb t0 ((t1 + 1) % 3) is)

-- ---- halves of one size

abbrev pub place : ℕ → ℕ → ℕ
place size k = 64 + k * size

abbrev pub opened : ℕ → List ℕ → ℕ → Bool
opened size image k = eqb (byte_at image (place size k)) 79

abbrev pub turn : ℕ → List ℕ → ℕ → ℕ
turn size image k = byte_at image (place size k + 1)

abbrev pub newest : ℕ → List ℕ → Option ℕ
newest size image = newest_by (opened size image 0) (turn size image 0) (opened size image 1) (turn size image 1)

-- the newest half is open, and its turn is a turn
pub newest_is_open : (size number : ℕ) (a : List ℕ) → number < 2 → newest size a ≡ Some (1 - number) → (opened size a (1 - number) ≡ true) × (turn size a (1 - number) ≤ 2)
newest_is_open size zero a lt is = second_newest _ _ _ _ is
newest_is_open size (suc zero) a lt is = first_newest _ _ _ _ is
newest_is_open size (suc (suc number)) a lt is = absurd (omega arith)

-- where this half is closed, the other one is the newest, if it is open and its turn is a turn
pub newest_alone : (size number : ℕ) (a : List ℕ) → number < 2 → opened size a number ≡ false → opened size a (1 - number) ≡ true → turn size a (1 - number) ≤ 2 → newest size a ≡ Some (1 - number)
newest_alone size zero a lt shut other le = rw (shut, other) (second_alone _ _ le)
newest_alone size (suc zero) a lt shut other le = rw (shut, other) (first_alone _ _ le)
newest_alone size (suc (suc number)) a lt shut other le = absurd (omega arith)

-- where both are open, the one with the next turn is the newest
pub newest_next : (size number : ℕ) (a : List ℕ) → number < 2 → opened size a number ≡ true → opened size a (1 - number) ≡ true → turn size a (1 - number) ≤ 2
    → turn size a number ≡ (turn size a (1 - number) + 1) % 3 → newest size a ≡ Some number
newest_next size zero a lt this other le is = rw (this, other) (first_next _ _ le is)
newest_next size (suc zero) a lt this other le is = rw (this, other) (second_next _ _ le is)
newest_next size (suc (suc number)) a lt this other le is = absurd (omega arith)

pub record Places (size number : ℕ) : Type 0 where
  pub this_from : 64 ≤ place size number
  pub this_to : place size number + size ≤ 64 + 2 * size
  pub other_from : 64 ≤ place size (1 - number)
  pub other_to : place size (1 - number) + size ≤ 64 + 2 * size
  pub apart : (place size number + size ≤ place size (1 - number)) ⊎ (place size (1 - number) + size ≤ place size number)

pub places : (size number : ℕ) → number < 2 → Places size number
places size zero lt = record { this_from = omega arith; this_to = omega arith; other_from = omega arith; other_to = omega arith; apart = inl (omega arith) }
places size (suc zero) lt = record { this_from = omega arith; this_to = omega arith; other_from = omega arith; other_to = omega arith; apart = inr (omega arith) }
places size (suc (suc number)) lt = absurd (omega arith)

-- the other one of the other one
pub other_twice : (number : ℕ) → number < 2 → 1 - (1 - number) ≡ number
other_twice zero lt = refl
other_twice (suc zero) lt = refl
other_twice (suc (suc number)) lt = absurd (omega arith)

pub other_below : (number : ℕ) → 1 - number < 2
other_below number = omega arith
