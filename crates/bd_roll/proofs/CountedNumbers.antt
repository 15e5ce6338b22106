-- Lists in another order, by how often each number stands in them.
use Rattle.std.proofs.Common.{◌≡◌, ⊎_elim, ℕ, ◌+◌, ◌≤◌, cond, List, [], ◌∷◌, ◌++◌, nat_eq, eq-eqb, refl, sym, ◌∙◌, ap, arith, subst, sum_by}
use Rattle.std.specs.Prelude.{IsPermutation}
use Rattle.std.proofs.lemmas.Bool.{ne_eqb}
use Rattle.std.proofs.lemmas.List.Sums.{sum_by-append, sum_by-cons}
use Rattle.std.proofs.lemmas.List.Sorted.{IsPermutation-cons, IsPermutation-middle, IsPermutation-refl, IsPermutation-sym, IsPermutation-trans, sum_by-IsPermutation}
use Rattle.bd_roll.proofs.InPlace.{same_or_not}

-- how often the number stands in the list
abbrev pub times : ℕ → List ℕ → ℕ
times n xs = sum_by (λ x. cond (nat_eq n x) 1 0) xs

pub times-append : (n : ℕ) (xs ys : List ℕ) → times n (xs ++ ys) ≡ times n xs + times n ys
times-append n xs ys = sum_by-append (λ x. cond (nat_eq n x) 1 0) xs ys

times-cons : (n x : ℕ) (xs : List ℕ) → times n (x ∷ xs) ≡ cond (nat_eq n x) 1 0 + times n xs
times-cons n x xs = sum_by-cons (λ y. cond (nat_eq n y) 1 0) x xs

times-own : (x : ℕ) (xs : List ℕ) → times x (x ∷ xs) ≡ 1 + times x xs
times-own x xs = times-cons x x xs ∙ ap (λ t. cond t 1 0 + times x xs) (eq-eqb x x refl)

-- a number that stands there comes to the front
to_front : (x : ℕ) (ys : List ℕ) → 1 ≤ times x ys → (rest : List ℕ) × IsPermutation ys (x ∷ rest)
to_front x [] some = absurd (omega (arith, some))
to_front x (y ∷ ys) some =
    ⊎_elim
    (λ same. (ys, subst (λ z. IsPermutation (y ∷ ys) (z ∷ ys)) (sym same) (IsPermutation-refl (y ∷ ys))))
    (λ other.
    let fewer : times x (y ∷ ys) ≡ 0 + times x ys = times-cons x y ys ∙ ap (λ t. cond t 1 0 + times x ys) (ne_eqb x y other) in
    let found = to_front x ys (omega (arith, some, fewer)) in
    (y ∷ found.0, IsPermutation-trans (y ∷ ys) (y ∷ x ∷ found.0) (x ∷ y ∷ found.0) (IsPermutation-cons y ys (x ∷ found.0) found.1) (IsPermutation-middle (y ∷ []) x found.0)))
    (same_or_not x y)

-- lists in which each number stands equally often
pub permutation_by_times : (xs ys : List ℕ) → ((n : ℕ) → times n xs ≡ times n ys) → IsPermutation xs ys
permutation_by_times [] [] same = IsPermutation-refl []
permutation_by_times [] (y ∷ ys) same = absurd (omega (arith, same y, times-own y ys))
permutation_by_times (x ∷ xs) ys same =
    let found = to_front x ys (omega (arith, same x, times-own x xs)) in
    let rest : (n : ℕ) → times n xs ≡ times n found.0 =
    λ n. omega (arith, same n, times-cons n x xs, times-cons n x found.0, sum_by-IsPermutation (λ y. cond (nat_eq n y) 1 0) ys (x ∷ found.0) found.1) in
    IsPermutation-trans (x ∷ xs) (x ∷ found.0) ys (IsPermutation-cons x xs found.0 (permutation_by_times xs found.0 rest)) (IsPermutation-sym ys (x ∷ found.0) found.1)
