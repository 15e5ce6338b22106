-- The lowest free numbers: they were free, none stands twice, and each other free number is above them.
use Rattle.std.proofs.Common.{◌≡◌, inl, inr, ℕ, zero, suc, ◌+◌, ◌<◌, ◌≤◌, List, [], ◌∷◌, length, take, drop, get_or, refl, sym, ◌∙◌, ap, subst, arith, All, Contains, slice_get, Some, Bool, true, false, cond, nat_eq, zero-add, length-take, length-drop}
use Rattle.std.specs.List.{IsDistinct}
use Rattle.std.specs.List.Sorted.{IsStrictlyIncreasing}
use Rattle.std.proofs.lemmas.List.{take-append-drop, get_or_default, get_or-take, get_or-drop}
use Rattle.std.proofs.lemmas.List.Elements.{All-weaker, All-contains_itself, All-take, Contains-append_cases}
use Rattle.std.proofs.lemmas.List.Kept.{AllPairs-from_increasing}
use Rattle.bd_space.specs.declared.space.Use.{Use}
use Rattle.bd_space.specs.declared.space.Use.TheVariants.{Free, Taken, Held}
use Rattle.bd_space.specs.Allotment.{Allotment, is_free, numbers_from, free_numbers, free_count, IsFree}
use Rattle.bd_space.proofs.Numbers.{numbers_from_le, IsFound, found_in_numbers, numbers_of_found, length-numbers_from, IsDistinct-numbers_from, IsDistinct-take}

-- ---- by the list of uses

pub free_found : (us : List Use) (n : ℕ) → slice_get us n ≡ Some Free → Contains (numbers_from is_free 0 us) n
free_found us n free = subst (Contains (numbers_from is_free 0 us)) (zero-add n) (numbers_of_found is_free 0 us n Free free refl)

pub found_free : (us : List Use) (n : ℕ) → Contains (numbers_from is_free 0 us) n → slice_get us n ≡ Some Free
found_free us n c = free_one (found_in_numbers is_free 0 us n c)
  where
    at : (place : ℕ) (u : Use) → n ≡ 0 + place → slice_get us place ≡ Some u → is_free u ≡ true → slice_get us n ≡ Some Free
    at place Free number found passes = let same : n ≡ place = omega arith in ap (slice_get us) same ∙ found
    at place Taken number found passes = cc
    at place Held number found passes = cc

    free_one : IsFound is_free 0 us n → slice_get us n ≡ Some Free
    free_one f = at f.place f.usage f.number f.found f.passes

pub All-lowest : (count : ℕ) (us : List Use) → All (λ n. slice_get us n ≡ Some Free) (take count (numbers_from is_free 0 us))
All-lowest count us =
    All-take (λ n. slice_get us n ≡ Some Free) count (numbers_from is_free 0 us)
    (All-weaker (Contains (numbers_from is_free 0 us)) (λ n. slice_get us n ≡ Some Free) (found_free us) _ (All-contains_itself (numbers_from is_free 0 us)))

pub IsDistinct-lowest : (count : ℕ) (us : List Use) → IsDistinct nat_eq (take count (numbers_from is_free 0 us))
IsDistinct-lowest count us = IsDistinct-take count (numbers_from is_free 0 us) (IsDistinct-numbers_from is_free 0 us)

-- ---- by the space

pub Contains-free_numbers : (space : Allotment) (n : ℕ) → IsFree space n → Contains (free_numbers space) n
Contains-free_numbers space n = free_found space.uses n

pub free_from_Contains : (space : Allotment) (n : ℕ) → Contains (free_numbers space) n → IsFree space n
free_from_Contains space n = found_free space.uses n

pub length-free_numbers : (space : Allotment) → length (free_numbers space) ≡ free_count space
length-free_numbers space = length-numbers_from is_free 0 space.uses

-- the numbers that an extension appends were free
pub All-lowest_free : (count : ℕ) (space : Allotment) → All (IsFree space) (take count (free_numbers space))
All-lowest_free count space = All-lowest count space.uses

-- they differ from each other
pub IsDistinct-lowest_free : (count : ℕ) (space : Allotment) → IsDistinct nat_eq (take count (free_numbers space))
IsDistinct-lowest_free count space = IsDistinct-lowest count space.uses

-- ---- ascending

increasing_cons : (k : ℕ) (xs : List ℕ) → All (λ n. k + 1 ≤ n) xs → IsStrictlyIncreasing xs → IsStrictlyIncreasing (k ∷ xs)
increasing_cons k xs above rises zero h = let first : k + 1 ≤ get_or xs 0 0 = above 0 0 (omega arith) in omega arith
increasing_cons k xs above rises (suc j) h =
    let later : get_or xs j 0 < get_or xs (j + 1) 0 = rises j (omega arith) in
    let next : suc (j + 1) ≡ suc j + 1 = omega arith in
    subst (λ i. get_or xs j 0 < get_or (k ∷ xs) i 0) next later

numbers_from_increasing : (test : Use → Bool) (k : ℕ) (us : List Use) → IsStrictlyIncreasing (numbers_from test k us)
numbers_from_increasing test k [] = λ i h. absurd (omega arith)
numbers_from_increasing test k (u ∷ us) = at (test u) (numbers_from_increasing test (k + 1) us)
  where
    at : (b : Bool) → IsStrictlyIncreasing (numbers_from test (k + 1) us)
        → IsStrictlyIncreasing (cond b (k ∷ numbers_from test (k + 1) us) (numbers_from test (k + 1) us))
    at true rises = increasing_cons k (numbers_from test (k + 1) us) (numbers_from_le test (k + 1) us) rises
    at false rises = rises

pub IsStrictlyIncreasing-free_numbers : (space : Allotment) → IsStrictlyIncreasing (free_numbers space)
IsStrictlyIncreasing-free_numbers space = numbers_from_increasing is_free 0 space.uses

-- each of the lowest is below each other free number
pub lowest_below : (count : ℕ) (space : Allotment) (m n : ℕ) → Contains (take count (free_numbers space)) m → IsFree space n
    → (Contains (take count (free_numbers space)) n → ⊥) → m < n
lowest_below count space m n low free high =
    elim (Contains-append_cases (take count all) (drop count all) n (subst (λ xs. Contains xs n) (sym (take-append-drop count all)) (Contains-free_numbers space n free))) [
      | inl within ↦ absurd (high within)
      | inr later ↦ between low later
    ]
  where
    all : List ℕ
    all = free_numbers space

    between : Contains (take count all) m → Contains (drop count all) n → m < n
    between (i, below, at_i) (j, above, at_j) =
        let within : i < count = omega (arith, length-take count all) in
        let inside : count + j < length all = omega (arith, length-drop count all) in
        let first : get_or all i m ≡ m = sym (get_or-take count all i m within) ∙ at_i in
        let second : get_or all (count + j) n ≡ n = sym (get_or-drop count all j n) ∙ at_j in
        let first' : get_or all i n ≡ m = get_or_default all i n m (omega arith) ∙ first in
        let rises : get_or all i n < get_or all (count + j) n =
        AllPairs-from_increasing all (IsStrictlyIncreasing-free_numbers space) i (count + j) n (omega arith) inside in
        omega arith
