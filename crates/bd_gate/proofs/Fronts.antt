-- What ten bytes from the front of a half say.
use Rattle.std.proofs.Common.{◌≡◌, ⊎_elim, inl, inr, ℕ, zero, suc, ◌+◌, ◌*◌, ◌<◌, ◌≤◌, List, take, drop, Bool, eqb, Option, Some, sym, ◌∙◌, ap, arith}
use Rattle.std.proofs.lemmas.List.{drop-take, drop-drop, take-take}
use Rattle.std.specs.Int.{w64, from_be_bytes}
use Rattle.bd_disk.specs.Images.{InRange, bytes_at}
use Rattle.bd_model.specs.Sizes.{Sizes, half_bytes, half_place}
use Rattle.bd_model.proofs.ListLemmas.{same_some}
use Rattle.bd_gate.specs.Superblock.{byte_at, eight_at}
use Rattle.bd_gate.specs.Halves.{half_at, is_open, turn_at, newest_by, newest_half, InFronts, InHalves, half_of}
use Rattle.bd_gate.specs.declared.half.Front.{Front}
use Rattle.bd_gate.proofs.Newest.{place, places, none_or_half}

-- the length, of ten bytes that were read
pub front_length : (image : List ℕ) (at : ℕ) → from_be_bytes w64 (take 8 (drop 2 (bytes_at at 10 image))) ≡ eight_at image (at + 2)
front_length image at = ap (λ l. from_be_bytes w64 (take 8 l)) (drop-take 2 8 (drop at image) ∙ ap (take 8) (drop-drop 2 at image)) ∙ ap (from_be_bytes w64) (take-take 8 8 (drop (at + 2) image) (omega arith))

-- ten bytes from the front of both halves
pub record AreFronts (s : Sizes) (image : List ℕ) (first second : Front) : Type 0 where
  pub first_gate : first.gate ≡ byte_at image (half_place s 0)
  pub first_turn : first.turn ≡ turn_at s image 0
  pub first_length : first.length ≡ eight_at image (half_place s 0 + 2)
  pub second_gate : second.gate ≡ byte_at image (half_place s 1)
  pub second_turn : second.turn ≡ turn_at s image 1
  pub second_length : second.length ≡ eight_at image (half_place s 1 + 2)

-- they were read one after the other, and nothing was written between
pub fronts_read : (s : Sizes) (image then_ : List ℕ) (first second : Front) → then_ ≡ image
    → first.gate ≡ byte_at image (half_place s 0) → first.turn ≡ turn_at s image 0 → first.length ≡ eight_at image (half_place s 0 + 2)
    → second.gate ≡ byte_at then_ (half_place s 1) → second.turn ≡ turn_at s then_ 1 → second.length ≡ eight_at then_ (half_place s 1 + 2) → AreFronts s image first second
fronts_read s image then_ first second same gate0 turn0 length0 gate1 turn1 length1 = record {
  first_gate = gate0;
  first_turn = turn0;
  first_length = length0;
  second_gate = gate1 ∙ ap (λ l. byte_at l (half_place s 1)) same;
  second_turn = turn1 ∙ ap (λ l. turn_at s l 1) same;
  second_length = length1 ∙ ap (λ l. eight_at l (half_place s 1 + 2)) same;
}

abbrev pub newest_front : Front → Front → Option ℕ
newest_front first second = newest_by (eqb first.gate 79) first.turn (eqb second.gate 79) second.turn

-- they tell which half is the newest
pub newest_of_fronts : (s : Sizes) (image : List ℕ) (first second : Front) → AreFronts s image first second → newest_half s image ≡ newest_front first second
newest_of_fronts s image first second f = sym (λ i. newest_by (eqb (f.first_gate i) 79) (f.first_turn i) (eqb (f.second_gate i) 79) (f.second_turn i))

-- and what there is to say of it
pub first_half : (s : Sizes) (image : List ℕ) (first second : Front) → AreFronts s image first second → (opened : Bool) → opened ≡ eqb second.gate 79
    → half_of 0 first.turn first.length opened ≡ half_at s image 0
first_half s image first second f opened is = λ i. half_of 0 (f.first_turn i) (f.first_length i) ((is ∙ ap (λ g. eqb g 79) f.second_gate) i)

pub second_half : (s : Sizes) (image : List ℕ) (first second : Front) → AreFronts s image first second → (opened : Bool) → opened ≡ eqb first.gate 79
    → half_of 1 second.turn second.length opened ≡ half_at s image 1
second_half s image first second f opened is = λ i. half_of 1 (f.second_turn i) (f.second_length i) ((is ∙ ap (λ g. eqb g 79) f.first_gate) i)

-- of the two numbers it's the other one
pub second_number : (k : ℕ) (first second : Front) → Some k ≡ newest_front first second → (k ≡ 0 → ⊥) → newest_front first second ≡ Some 1
second_number k first second is not_first =
    ⊎_elim (λ none. absurd (cc (is, none)))
    (λ half. ⊎_elim (λ zeroth. absurd (not_first (same_some (is ∙ zeroth)))) (λ one. one) half) (none_or_half (eqb first.gate 79) first.turn (eqb second.gate 79) second.turn)

-- what lies within a half lies within both
within : (size number from n at : ℕ) → number < 2 → from + n ≤ size → InRange (place size number + from) n at → InRange 64 (2 * size) at
within size number from n at lt fits r = let p = places size number lt in (omega (arith, r.0, p.this_from), omega (arith, r.1, p.this_to))

pub in_halves : (s : Sizes) (number from n at : ℕ) → number < 2 → from + n ≤ half_bytes s → InRange (half_place s number + from) n at → InHalves s at
in_halves s number from n at lt fits r = within (half_bytes s) number from n at lt fits r

-- the front of a half is one of the two
pub in_fronts : (s : Sizes) (number at : ℕ) → number < 2 → InRange (half_place s number) 10 at → InFronts s at
in_fronts s zero at lt r = inl r
in_fronts s (suc zero) at lt r = inr r
in_fronts s (suc (suc number)) at lt r = absurd (omega arith)

pub fronts_in_halves : (s : Sizes) (at : ℕ) → InFronts s at → InHalves s at
fronts_in_halves s at (inl r) = in_halves s 0 0 10 at (omega arith) (omega arith) (omega (arith, r.0), omega (arith, r.1))
fronts_in_halves s at (inr r) = in_halves s 1 0 10 at (omega arith) (omega arith) (omega (arith, r.0), omega (arith, r.1))

-- the newest half is one of the two
pub half_number : (s : Sizes) (image : List ℕ) (k : ℕ) → newest_half s image ≡ Some k → k ≤ 1
half_number s image k is =
    ⊎_elim (λ none. absurd (cc (is, none)))
    (λ half. ⊎_elim (λ zeroth. omega (arith, same_some (sym is ∙ zeroth))) (λ one. omega (arith, same_some (sym is ∙ one))) half)
    (none_or_half (is_open s image 0) (turn_at s image 0) (is_open s image 1) (turn_at s image 1))
