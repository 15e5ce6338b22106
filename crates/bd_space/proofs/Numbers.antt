-- The numbers whose use passes a test.
use Rattle.std.proofs.Common.{◌≡◌, ◌≢◌, ◌⊎◌, inl, inr, ℕ, zero, suc, ◌+◌, ◌<◌, ◌≤◌, List, [], ◌∷◌, ◌++◌, length, take, drop, get_or, Bool, true, false, cond, refl, sym, ◌∙◌, ap, subst, arith, All, Contains, slice_get, Some, count_by, nat_eq, length-drop, add-zero}
use Rattle.std.specs.List.{IsDistinct, AllByRecursion}
use Rattle.std.proofs.lemmas.List.{append_assoc, drop_all, drop_more, take_more}
use Rattle.std.proofs.lemmas.List.Sums.{sum_by-cons}
use Rattle.std.proofs.lemmas.List.Elements.{All-nil, All-cons, All-take, All-weaker, All-from_recursion, recursion_from_All}
use Rattle.std.proofs.lemmas.Map.Keys.{IsDistinct-cons}
use Rattle.std.proofs.lemmas.Bool.{cases_eq}
use Rattle.std.proofs.lemmas.Bool.Decides.{eqb_tells}
use Rattle.bd_space.specs.declared.space.Use.{Use}
use Rattle.bd_space.specs.declared.space.Use.TheVariants.{Free, Taken, Held}
use Rattle.bd_space.specs.Holding.{Holding}
use Rattle.bd_space.specs.Allotment.{is_free, numbers_from}

-- ---- elements of a list

pub Contains-nil : {X : Type 0} (x : X) → Contains [] x → ⊥
Contains-nil x (k, inside, at) = omega arith

pub Contains-cons_cases : {X : Type 0} (x y : X) (xs : List X) → Contains (x ∷ xs) y → (x ≡ y) ⊎ Contains xs y
Contains-cons_cases x y xs (zero, inside, at) = inl at
Contains-cons_cases x y xs (suc k, inside, at) = inr (k, omega arith, at)

pub Contains-head : {X : Type 0} (x : X) (xs : List X) → Contains (x ∷ xs) x
Contains-head x xs = (0, omega arith, refl)

pub Contains-tail : {X : Type 0} (x y : X) (xs : List X) → Contains xs y → Contains (x ∷ xs) y
Contains-tail x y xs (k, inside, at) = (suc k, omega arith, at)

pub Contains_decided : (xs : List ℕ) (n : ℕ) → Contains xs n ⊎ (Contains xs n → ⊥)
Contains_decided [] n = inr (Contains-nil n)
Contains_decided (x ∷ xs) n = elim (cases_eq x n) [
  | inl same ↦ inl (0, omega arith, same)
  | inr other ↦ elim (Contains_decided xs n) [
    | inl within ↦ inl (Contains-tail x n xs within)
    | inr without ↦ inr (λ c. elim (Contains-cons_cases x n xs c) [ inl same ↦ other same | inr within ↦ without within ])
  ]
]

-- ---- the next of a list's rest

pub drop_front : (i x : ℕ) (xs rest : List ℕ) → drop i xs ≡ x ∷ rest
    → (i < length xs) × (take (i + 1) xs ≡ take i xs ++ x ∷ []) × (drop (i + 1) xs ≡ rest)
drop_front i x xs rest is =
    let within : i < length xs = omega (arith, length-drop i xs, ap length is) in
    let next : drop i xs ≡ get_or xs i x ∷ drop (i + 1) xs = drop_more xs i x within in
    let here : get_or xs i x ≡ x = cc in
    let after : drop (i + 1) xs ≡ rest = cc in
    (within, take_more xs i x within ∙ ap (λ y. take i xs ++ y ∷ []) here, after)

-- ---- the numbers, one more use on

pub numbers_from-drop : (test : Use → Bool) (us : List Use) (i : ℕ) (d : Use) → i < length us
    → numbers_from test i (drop i us)
    ≡ cond (test (get_or us i d)) (i ∷ numbers_from test (i + 1) (drop (i + 1) us)) (numbers_from test (i + 1) (drop (i + 1) us))
numbers_from-drop test us i d within = ap (numbers_from test i) (drop_more us i d within)

pub length-numbers_from : (test : Use → Bool) (k : ℕ) (us : List Use) → length (numbers_from test k us) ≡ count_by test us
length-numbers_from test k [] = refl
length-numbers_from test k (u ∷ us) =
    at (test u) (length-numbers_from test (k + 1) us) ∙ sym (sum_by-cons (λ x. cond (test x) 1 0) u us)
  where
    at : (b : Bool) → length (numbers_from test (k + 1) us) ≡ count_by test us
        → length (cond b (k ∷ numbers_from test (k + 1) us) (numbers_from test (k + 1) us)) ≡ cond b 1 0 + count_by test us
    at true e = omega arith
    at false e = omega arith

-- ---- which numbers they are

-- the place of a number, and its use
pub record IsFound (test : Use → Bool) (k : ℕ) (us : List Use) (n : ℕ) : Type 0 where
  pub place : ℕ
  pub usage : Use
  pub number : n ≡ k + place
  pub found : slice_get us place ≡ Some usage
  pub passes : test usage ≡ true

pub found_in_numbers : (test : Use → Bool) (k : ℕ) (us : List Use) (n : ℕ) → Contains (numbers_from test k us) n → IsFound test k us n
found_in_numbers test k [] n c = absurd (Contains-nil n c)
found_in_numbers test k (u ∷ us) n c = at (test u) refl (found_in_numbers test (k + 1) us n) c
  where
    later : IsFound test (k + 1) us n → IsFound test k (u ∷ us) n
    later f = record { place = suc f.place; usage = f.usage; number = omega (arith, f.number); found = f.found; passes = f.passes }

    at : (b : Bool) → test u ≡ b → (Contains (numbers_from test (k + 1) us) n → IsFound test (k + 1) us n)
        → Contains (cond b (k ∷ numbers_from test (k + 1) us) (numbers_from test (k + 1) us)) n → IsFound test k (u ∷ us) n
    at true is rest c = elim (Contains-cons_cases k n (numbers_from test (k + 1) us) c) [
      | inl same ↦ record { place = 0; usage = u; number = omega arith; found = refl; passes = is }
      | inr within ↦ later (rest within)
    ]
    at false is rest c = later (rest c)

pub numbers_of_found : (test : Use → Bool) (k : ℕ) (us : List Use) (j : ℕ) (u : Use) → slice_get us j ≡ Some u → test u ≡ true
    → Contains (numbers_from test k us) (k + j)
numbers_of_found test k [] j u found passes = cc
numbers_of_found test k (v ∷ us) zero u found passes =
    let same : v ≡ u = cc in
    let here : test v ≡ true = ap test same ∙ passes in
    rw here (rw add-zero (Contains-head k (numbers_from test (k + 1) us)))
numbers_of_found test k (v ∷ us) (suc j) u found passes =
    let later = numbers_of_found test (k + 1) us j u found passes in
    let number : k + 1 + j ≡ k + suc j = omega arith in
    at (test v) (subst (Contains (numbers_from test (k + 1) us)) number later)
  where
    at : (b : Bool) → Contains (numbers_from test (k + 1) us) (k + suc j)
        → Contains (cond b (k ∷ numbers_from test (k + 1) us) (numbers_from test (k + 1) us)) (k + suc j)
    at true c = Contains-tail k (k + suc j) _ c
    at false c = c

pub numbers_from_le : (test : Use → Bool) (k : ℕ) (us : List Use) → All (λ n. k ≤ n) (numbers_from test k us)
numbers_from_le test k [] = All-nil (λ n. k ≤ n)
numbers_from_le test k (u ∷ us) =
    at (test u) (All-weaker (λ n. k + 1 ≤ n) (λ n. k ≤ n) (λ n h. omega arith) _ (numbers_from_le test (k + 1) us))
  where
    at : (b : Bool) → All (λ n. k ≤ n) (numbers_from test (k + 1) us)
        → All (λ n. k ≤ n) (cond b (k ∷ numbers_from test (k + 1) us) (numbers_from test (k + 1) us))
    at true h = All-cons (λ n. k ≤ n) k _ (omega arith) h
    at false h = h

-- ---- no number stands twice

apart : (k : ℕ) (xs : List ℕ) → All (λ n. k + 1 ≤ n) xs → AllByRecursion (λ y. nat_eq k y ≡ false) xs
apart k xs above = recursion_from_All (λ y. nat_eq k y ≡ false) xs
    (All-weaker (λ n. k + 1 ≤ n) (λ y. nat_eq k y ≡ false) (λ n h. elim (eqb_tells k n) [ inl same ↦ absurd (let e : k ≡ n = same.1 in omega arith) | inr other ↦ other.0 ]) xs above)

pub IsDistinct-numbers_from : (test : Use → Bool) (k : ℕ) (us : List Use) → IsDistinct nat_eq (numbers_from test k us)
unfolding IsDistinct
IsDistinct-numbers_from test k [] = tt
IsDistinct-numbers_from test k (u ∷ us) = at (test u) (IsDistinct-numbers_from test (k + 1) us)
  where
    at : (b : Bool) → IsDistinct nat_eq (numbers_from test (k + 1) us)
        → IsDistinct nat_eq (cond b (k ∷ numbers_from test (k + 1) us) (numbers_from test (k + 1) us))
    at true d = IsDistinct-cons nat_eq k _ (apart k _ (numbers_from_le test (k + 1) us)) d
    at false d = d

pub IsDistinct-take : (count : ℕ) (xs : List ℕ) → IsDistinct nat_eq xs → IsDistinct nat_eq (take count xs)
unfolding IsDistinct
IsDistinct-take zero xs d = tt
IsDistinct-take (suc count) [] d = tt
IsDistinct-take (suc count) (x ∷ xs) d =
    let P : ℕ → Type 0 = λ y. nat_eq x y ≡ false in
    (recursion_from_All P (take count xs) (All-take P count xs (All-from_recursion P xs d.0)), IsDistinct-take count xs d.1)

-- ---- nothing free below a place

pub numbers_from-below : (k low : ℕ) (us : List Use) → ((j : ℕ) → j < low → slice_get us j ≢ Some Free)
    → numbers_from is_free (k + low) (drop low us) ≡ numbers_from is_free k us
numbers_from-below k zero us none = ap (λ n. numbers_from is_free n us) (add-zero k)
numbers_from-below k (suc low) [] none = refl
numbers_from-below k (suc low) (u ∷ us) none = past u (none 0 (omega arith)) (later ∙ numbers_from-below (k + 1) low us (λ j h. none (suc j) (omega arith)))
  where
    later : numbers_from is_free (k + suc low) (drop low us) ≡ numbers_from is_free (k + 1 + low) (drop low us)
    later = ap (λ n. numbers_from is_free n (drop low us)) (omega arith)

    past : (v : Use) → (slice_get (v ∷ us) 0 ≢ Some Free) → numbers_from is_free (k + suc low) (drop low us) ≡ numbers_from is_free (k + 1) us
        → numbers_from is_free (k + suc low) (drop low us) ≡ numbers_from is_free k (v ∷ us)
    past Free not e = absurd (not refl)
    past Taken not e = e
    past Held not e = e

-- ---- the lowest of the free numbers, one after another

-- of the numbers `all`, the first `found` went to the owner, and the others are those from place `at` on
pub record IsCollected (all : List ℕ) (us : List Use) (at found count : ℕ) (old new : Holding) : Type 0 where
  pub rest : numbers_from is_free at (drop at us) ≡ drop found all
  pub appended : new.numbers ≡ old.numbers ++ take found all
  pub no_more : found ≤ count
  pub room : count ≤ new.spare + found
  pub spare : old.spare ≤ new.spare + found

pub collected_one : (all : List ℕ) (us : List Use) (at found count : ℕ) (old new next : Holding) → IsCollected all us at found count old new
    → at < length us → get_or us at Free ≡ Free → found ≢ count → next.numbers ≡ new.numbers ++ at ∷ [] → new.spare ≤ next.spare + 1
    → IsCollected all us (at + 1) (found + 1) count old next
collected_one all us at found count old new next so_far within here more pushed spare =
    let later : List ℕ = numbers_from is_free (at + 1) (drop (at + 1) us) in
    let now : numbers_from is_free at (drop at us) ≡ at ∷ later =
    numbers_from-drop is_free us at Free within ∙ ap (λ u. cond (is_free u) (at ∷ later) later) here in
    let front = drop_front found at all later (sym so_far.rest ∙ now) in
    record {
      rest = sym front.2;
      appended =
          pushed ∙ ap (λ ns. ns ++ at ∷ []) so_far.appended ∙ append_assoc old.numbers (take found all) (at ∷ []) ∙ ap (λ ns. old.numbers ++ ns) (sym front.1);
      no_more = omega (arith, so_far.no_more);
      room = omega (arith, so_far.room);
      spare = omega (arith, so_far.spare);
    }

pub collected_none : (all : List ℕ) (us : List Use) (at found count : ℕ) (old new : Holding) → IsCollected all us at found count old new
    → at < length us → is_free (get_or us at Free) ≡ false → IsCollected all us (at + 1) found count old new
collected_none all us at found count old new so_far within here =
    let later : List ℕ = numbers_from is_free (at + 1) (drop (at + 1) us) in
    record {
      rest = sym (ap (λ b. cond b (at ∷ later) later) here) ∙ sym (numbers_from-drop is_free us at Free within) ∙ so_far.rest;
      appended = so_far.appended;
      no_more = so_far.no_more;
      room = so_far.room;
      spare = so_far.spare;
    }

pub not_free : (u : Use) → (u ≡ Free → ⊥) → is_free u ≡ false
not_free Free other = absurd (other refl)
not_free Taken other = refl
not_free Held other = refl

-- behind the last use all were found
pub collected_all : (all : List ℕ) (us : List Use) (at found count : ℕ) (old new : Holding) → IsCollected all us at found count old new
    → length us ≤ at → count ≤ length all → found ≡ count
collected_all all us at found count old new so_far past enough =
    let none : drop found all ≡ [] = sym so_far.rest ∙ ap (numbers_from is_free at) (drop_all at us past) in
    omega (arith, ap length none, length-drop found all, so_far.no_more)

pub collected_rest : (all : List ℕ) (us : List Use) (at found count : ℕ) (old new : Holding) → IsCollected all us at found count old new
    → length us ≤ at → found ≡ count → numbers_from is_free (length us) (drop (length us) us) ≡ drop count all
collected_rest all us at found count old new so_far past same =
    ap (numbers_from is_free (length us)) (drop_all (length us) us (omega arith))
    ∙ sym (ap (numbers_from is_free at) (drop_all at us past)) ∙ so_far.rest ∙ ap (λ n. drop n all) same
