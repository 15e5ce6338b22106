-- The hash forgets a byte after 64 more, and goes over two bytes at once.
use Rattle.std.proofs.Common.{◌≡◌, ℕ, suc, ◌+◌, ◌-◌, ◌*◌, ◌%◌, ◌^◌, ◌<◌, ◌≤◌, List, [], ◌∷◌, refl, sym, ◌∙◌, ap, arith, length, take, drop, fold, get_or, length-drop, take-append-drop, ⊎_elim}
use Rattle.std.proofs.Math.Nat.{mod-add-mod, add-mod-mod, add-mul-mod_self_right, mod-lt, mod-eq_of_lt}
use Rattle.std.proofs.lemmas.Nat.{mul-mod_second, pow-add}
use Rattle.std.proofs.lemmas.Grind.{pow_more}
use Rattle.std.proofs.lemmas.Bool.{cases_lt}
use Rattle.std.proofs.lemmas.List.Sums.{fold-append, fold_more}
use Rattle.bd_model.specs.Chunks.{gear}
use Rattle.bd_gear.specs.Rolling.{rolled_over, rolled_on}
use Rattle.bd_gear.specs.Laws.{TheHashForgets}

-- a remainder before a doubling makes no difference
pub double-mod : (h g : ℕ) → (2 * (h % 2 ^ 64) + g) % 2 ^ 64 ≡ (2 * h + g) % 2 ^ 64
double-mod h g =
    sym (mod-add-mod (2 * (h % 2 ^ 64)) (2 ^ 64) g) ∙ ap (λ m. (m + g) % 2 ^ 64) (mul-mod_second 2 h (2 ^ 64)) ∙ mod-add-mod (2 * h) (2 ^ 64) g

-- the hash without the remainders
abbrev whole : ℕ → List ℕ → ℕ
whole hash bytes = fold (λ h byte. 2 * h + gear byte) hash bytes

rolled-whole : (h : ℕ) (bytes : List ℕ) → rolled_on (h % 2 ^ 64) bytes ≡ whole h bytes % 2 ^ 64
rolled-whole h [] = refl
rolled-whole h (byte ∷ bytes) = ap (λ n. rolled_on n bytes) (double-mod h (gear byte)) ∙ rolled-whole (2 * h + gear byte) bytes

whole-split : (h : ℕ) (bytes : List ℕ) → whole h bytes ≡ h * 2 ^ length bytes + whole 0 bytes
whole-split h [] = omega arith
whole-split h (byte ∷ bytes) =
    let n = length bytes in
    let next : n + 1 ≡ suc n = omega arith in
    let power : 2 ^ suc n ≡ 2 ^ n * 2 = ap (λ m. 2 ^ m) (sym next) ∙ pow_more 2 n in
    omega (arith, whole-split (2 * h + gear byte) bytes, whole-split (2 * 0 + gear byte) bytes, ap (λ m. h * m) power)

forgetful : (h : ℕ) (bytes : List ℕ) → h < 2 ^ 64 → 64 ≤ length bytes → rolled_on h bytes ≡ whole 0 bytes % 2 ^ 64
forgetful h bytes fits long =
    let n = length bytes in
    let exponent : (n - 64) + 64 ≡ n = omega arith in
    let power : 2 ^ n ≡ 2 ^ (n - 64) * 2 ^ 64 = ap (λ m. 2 ^ m) (sym exponent) ∙ pow-add 2 (n - 64) 64 in
    let shifted : whole h bytes ≡ whole 0 bytes + h * 2 ^ (n - 64) * 2 ^ 64 = whole-split h bytes ∙ omega (arith, ap (λ m. h * m) power) in
    ap (λ k. rolled_on k bytes) (sym (mod-eq_of_lt fits)) ∙ rolled-whole h bytes ∙ ap (λ m. m % 2 ^ 64) shifted ∙ add-mul-mod_self_right (whole 0 bytes) (h * 2 ^ (n - 64)) (2 ^ 64)

pub the_hash_forgets : TheHashForgets
the_hash_forgets hash other bytes fits fits' long = forgetful hash bytes fits long ∙ sym (forgetful other bytes fits' long)

rolled-fits : (h : ℕ) (bytes : List ℕ) → h < 2 ^ 64 → rolled_on h bytes < 2 ^ 64
rolled-fits h [] fits = fits
rolled-fits h (byte ∷ bytes) fits = rolled-fits (rolled_over h byte) bytes (mod-lt (2 * h + gear byte) (omega arith))

-- the last 64 bytes give the hash
pub rolled-last : (h : ℕ) (bytes : List ℕ) → h < 2 ^ 64 → rolled_on h (drop (length bytes - 64) bytes) ≡ rolled_on h bytes
rolled-last h bytes fits =
    let forgotten = length bytes - 64 in
    ⊎_elim
    (λ long.
    let last = drop forgotten bytes in
    let size : 64 ≤ length last = omega (arith, length-drop forgotten bytes) in
    the_hash_forgets h (rolled_on h (take forgotten bytes)) last fits (rolled-fits h (take forgotten bytes) fits) size
    ∙ sym (ap (rolled_on h) (sym (take-append-drop forgotten bytes)) ∙ fold-append rolled_over h (take forgotten bytes) last))
    (λ short. let none : forgotten ≡ 0 = omega arith in ap (λ n. rolled_on h (drop n bytes)) none)
    (cases_lt 64 (length bytes))

-- two bytes at once
pub rolled-two : (h f g : ℕ) → ((h * 4) % 2 ^ 64 + ((f * 2) % 2 ^ 64 + g) % 2 ^ 64) % 2 ^ 64 ≡ (2 * ((2 * h + f) % 2 ^ 64) + g) % 2 ^ 64
rolled-two h f g =
    let m = 2 ^ 64 in
    let after = (f * 2) % m + g in
    let regroup : h * 4 + after ≡ (f * 2) % m + (g + h * 4) = omega arith in
    let whole_sum : f * 2 + (g + h * 4) ≡ 2 * (2 * h + f) + g = omega arith in
    mod-add-mod (h * 4) m (after % m)
    ∙ add-mod-mod (h * 4) after m
    ∙ ap (λ n. n % m) regroup
    ∙ mod-add-mod (f * 2) m (g + h * 4)
    ∙ ap (λ n. n % m) whole_sum
    ∙ sym (double-mod (2 * h + f) g)

-- two bytes more, after neither of which the hash is below the bound
pub passed-two : (bound hash : ℕ) (bytes : List ℕ) (n h odd even : ℕ) → n + 2 ≤ length bytes → h ≡ rolled_on hash (take n bytes) →
    odd ≡ rolled_over h (get_or bytes n 0) → even ≡ rolled_over (rolled_over h (get_or bytes n 0)) (get_or bytes (n + 1) 0) → bound ≤ odd → bound ≤ even →
    ((k : ℕ) → 1 ≤ k → k ≤ n → bound ≤ rolled_on hash (take k bytes)) →
    (even ≡ rolled_on hash (take (n + 2) bytes)) × ((k : ℕ) → 1 ≤ k → k ≤ n + 2 → bound ≤ rolled_on hash (take k bytes))
passed-two bound hash bytes n h odd even room h_is odd_is even_is over over' before =
    let one : rolled_over h (get_or bytes n 0) ≡ rolled_on hash (take (n + 1) bytes) =
    ap (λ m. rolled_over m (get_or bytes n 0)) h_is ∙ sym (fold_more rolled_over hash bytes n 0 (omega arith)) in
    let next : n + 1 + 1 ≡ n + 2 = omega arith in
    let two : even ≡ rolled_on hash (take (n + 2) bytes) =
    even_is ∙ ap (λ m. rolled_over m (get_or bytes (n + 1) 0)) one ∙ sym (fold_more rolled_over hash bytes (n + 1) 0 (omega arith)) ∙ ap (λ m. rolled_on hash (take m bytes)) next in (
      two,
      λ k low high.
          ⊎_elim
          (λ old. before k low (omega arith))
          (λ new.
          ⊎_elim
          (λ first. let same : n + 1 ≡ k = omega arith in omega (arith, odd_is ∙ one, ap (λ m. rolled_on hash (take m bytes)) same))
          (λ last. let same : n + 2 ≡ k = omega arith in omega (arith, two, ap (λ m. rolled_on hash (take m bytes)) same))
          (cases_lt k (n + 2)))
          (cases_lt k (n + 1)),
    )
