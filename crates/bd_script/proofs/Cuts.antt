-- Texts cut at a byte.
use Rattle.std.proofs.Common.{◌≡◌, ◌<◌, ◌≤◌, ◌+◌, ℕ, ◌==◌, Bool, true, false, not, cond, List, [], ◌∷◌, ◌++◌, length, take, drop, get_or, Some, None, refl, ap, subst, arith, suc}
use Rattle.std.specs.List.{list_all, position, position_or_len, prefix_len}
use Rattle.std.proofs.lemmas.Grind.{common_steps}
use Rattle.std.proofs.lemmas.Bool.Decides.{nat_tests}
use Rattle.std.proofs.lemmas.List.Sums.{split_at_first}
use Rattle.std.proofs.lemmas.List.Quantifiers.{position-Some}
use Rattle.bd_script.specs.Splits.{IsCutAt, lacks}

-- the elements of the longest front that passes all pass
front-cons : (p : ℕ → Bool) (x : ℕ) (xs : List ℕ) (n : ℕ) (b : Bool) → p x ≡ b → list_all p (take n xs) ≡ true → list_all p (take (cond b (suc n) 0) (x ∷ xs)) ≡ true
front-cons p x xs n true e h = rw e h
front-cons p x xs n false e h = refl

front_passes : (p : ℕ → Bool) (xs : List ℕ) → list_all p (take (prefix_len p xs) xs) ≡ true
front_passes p [] = refl
front_passes p (x ∷ xs) =
    let more : suc (prefix_len p xs) ≡ 1 + prefix_len p xs = omega arith in
    subst (λ (k : ℕ). list_all p (take (cond (p x) k 0) (x ∷ xs)) ≡ true) more (front-cons p x xs (prefix_len p xs) (p x) refl (front_passes p xs))

-- where the longest front is all, all pass
all_pass : (p : ℕ → Bool) (xs : List ℕ) → length xs ≤ prefix_len p xs → list_all p xs ≡ true
all_pass p [] h = refl
all_pass p (x ∷ xs) h = grind (arith, common_steps, all_pass p xs)

first-place : (p : ℕ → Bool) (text : List ℕ) (i : ℕ) → position p text ≡ Some i → (position_or_len p text ≡ i) × (position_or_len p text < length text)
first-place p text i e = (grind (arith, nat_tests), grind (arith, nat_tests))

byte-there : (byte : ℕ) (text : List ℕ) (i : ℕ) → position (λ b. b == byte) text ≡ Some i → get_or text i 0 ≡ byte
byte-there byte text i e = let at : (get_or text i 0 == byte) ≡ true = (position-Some (λ (b : ℕ). b == byte) text i 0 e).1 in grind (arith, nat_tests)

pub cut_found : (byte i : ℕ) (text : List ℕ) → position (λ b. b == byte) text ≡ Some i → IsCutAt byte text (take i text) (drop (i + 1) text)
cut_found byte i text e =
    let is : ℕ → Bool = λ b. b == byte in
    let place : (position_or_len is text ≡ i) × (position_or_len is text < length text) = first-place is text i e in
    let parts : text ≡ take i text ++ get_or text i 0 ∷ drop (i + 1) text
    = subst (λ (k : ℕ). text ≡ take k text ++ get_or text k 0 ∷ drop (k + 1) text) place.0 (split_at_first is text 0 place.1) in
    record {
      parts = subst (λ (b : ℕ). text ≡ take i text ++ b ∷ drop (i + 1) text) (byte-there byte text i e) parts;
      first = subst (λ (k : ℕ). lacks byte (take k text) ≡ true) place.0 (front_passes (λ b. not (b == byte)) text);
    }

pub cut_missed : (byte : ℕ) (text : List ℕ) → position (λ b. b == byte) text ≡ None → lacks byte text ≡ true
cut_missed byte text e = all_pass _ text (grind (arith, nat_tests, e))

-- what stands before the first such byte is told by the whole
pub cut_once : (byte : ℕ) (xs us ys vs : List ℕ) → lacks byte xs ≡ true → lacks byte us ≡ true → xs ++ byte ∷ ys ≡ us ++ byte ∷ vs → (xs ≡ us) × (ys ≡ vs)
cut_once byte [] [] ys vs a b e = (refl, cc)
cut_once byte [] (u ∷ us) ys vs a b e = let same : u ≡ byte = cc in absurd (grind (arith, nat_tests))
cut_once byte (x ∷ xs) [] ys vs a b e = let same : x ≡ byte = cc in absurd (grind (arith, nat_tests))
cut_once byte (x ∷ xs) (u ∷ us) ys vs a b e =
    let first : x ≡ u = cc in
    let rest : (xs ≡ us) × (ys ≡ vs) = cut_once byte xs us ys vs (grind (arith, nat_tests)) (grind (arith, nat_tests)) (cc) in
    (cc, rest.1)

pub lacks_none : (byte : ℕ) (xs ys : List ℕ) → lacks byte (xs ++ byte ∷ ys) ≡ true → ⊥
lacks_none byte [] ys h = grind (arith, nat_tests)
lacks_none byte (x ∷ xs) ys h = lacks_none byte xs ys (grind (arith, nat_tests))

-- a byte that fails a test is none of those that pass it
pub lacks_others : (p : ℕ → Bool) (byte : ℕ) (xs : List ℕ) → p byte ≡ false → list_all p xs ≡ true → lacks byte xs ≡ true
lacks_others p byte [] fails h = refl
lacks_others p byte (x ∷ xs) fails h =
    let here : p x ≡ true = grind (arith, nat_tests) in
    let rest : lacks byte xs ≡ true = lacks_others p byte xs fails (grind (arith, nat_tests)) in
    let other : (x == byte) ≡ true → ⊥ = λ same. let is : x ≡ byte = grind (arith, nat_tests) in cc (ap p is) in
    grind (arith, nat_tests)

pub lacks_append : (byte : ℕ) (xs ys : List ℕ) → lacks byte xs ≡ true → lacks byte ys ≡ true → lacks byte (xs ++ ys) ≡ true
lacks_append byte [] ys a b = b
lacks_append byte (x ∷ xs) ys a b =
    let rest : lacks byte (xs ++ ys) ≡ true = lacks_append byte xs ys (grind (arith, nat_tests)) b in
    grind (arith, nat_tests)
