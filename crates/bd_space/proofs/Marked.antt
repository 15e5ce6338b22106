-- The uses after some numbers were marked.
use Rattle.std.proofs.Common.{◌≡◌, ◌≢◌, inl, inr, ℕ, zero, suc, ◌+◌, ◌<◌, List, [], ◌∷◌, length, get_or, set, Bool, true, false, cond, refl, sym, ◌∙◌, ap, subst, arith, All, Contains, slice_get, Some, count_by, nat_eq}
use Rattle.std.specs.List.{IsDistinct}
use Rattle.std.proofs.lemmas.List.{length-set}
use Rattle.std.proofs.lemmas.List.Sums.{sum_by-set}
use Rattle.std.proofs.lemmas.List.Elements.{All-head, All-tail, All-nil, All-cons, All-weaker, All-from_recursion}
use Rattle.std.proofs.lemmas.Option.{slice_get_within, get_or_from_slice_get}
use Rattle.std.proofs.lemmas.Bool.{cases_eq, true≢false}
use Rattle.std.proofs.lemmas.Bool.Decides.{eqb_tells}
use Rattle.bd_space.specs.declared.space.Use.{Use}
use Rattle.bd_space.specs.Marking.{marked_uses}
use Rattle.bd_space.specs.Allotment.{Allotment, Marks}
use Rattle.bd_space.proofs.Numbers.{Contains-tail}

-- ---- one number

slice_get-set_same : (us : List Use) (n : ℕ) (u : Use) → n < length us → slice_get (set us n u) n ≡ Some u
slice_get-set_same [] n u h = absurd (omega arith)
slice_get-set_same (x ∷ us) zero u h = refl
slice_get-set_same (x ∷ us) (suc n) u h = slice_get-set_same us n u (omega arith)

slice_get-set_other : (us : List Use) (n m : ℕ) (u : Use) → m ≢ n → slice_get (set us n u) m ≡ slice_get us m
slice_get-set_other [] n m u h = refl
slice_get-set_other (x ∷ us) zero zero u h = absurd (h refl)
slice_get-set_other (x ∷ us) zero (suc m) u h = refl
slice_get-set_other (x ∷ us) (suc n) zero u h = refl
slice_get-set_other (x ∷ us) (suc n) (suc m) u h = slice_get-set_other us n m u (λ e. h (ap suc e))

-- ---- all of them

pub length-marked_uses : (us : List Use) (ns : List ℕ) (u : Use) → length (marked_uses us ns u) ≡ length us
length-marked_uses us [] u = refl
length-marked_uses us (n ∷ ns) u = length-marked_uses (set us n u) ns u ∙ length-set us n u

other_kept : (us : List Use) (ns : List ℕ) (u : Use) (m : ℕ) → (Contains ns m → ⊥) → slice_get (marked_uses us ns u) m ≡ slice_get us m
other_kept us [] u m without = refl
other_kept us (n ∷ ns) u m without =
    let apart : m ≢ n = λ e. without (0, omega arith, sym e) in
    other_kept (set us n u) ns u m (λ c. without (Contains-tail n m ns c)) ∙ slice_get-set_other us n m u apart

marked_kept : (us : List Use) (ns : List ℕ) (u : Use) (m : ℕ) → m < length us → slice_get us m ≡ Some u → slice_get (marked_uses us ns u) m ≡ Some u
marked_kept us [] u m h is = is
marked_kept us (n ∷ ns) u m h is = marked_kept (set us n u) ns u m (rw length-set h) still
  where
    still : slice_get (set us n u) m ≡ Some u
    still = elim (cases_eq m n) [
      | inl same ↦ subst (λ (k : ℕ). slice_get (set us k u) m ≡ Some u) same (slice_get-set_same us m u h)
      | inr other ↦ slice_get-set_other us n m u other ∙ is
    ]

each_marked : (us : List Use) (ns : List ℕ) (u : Use) → All (λ n. n < length us) ns → All (λ n. slice_get (marked_uses us ns u) n ≡ Some u) ns
each_marked us [] u within = All-nil (λ n. slice_get us n ≡ Some u)
each_marked us (n ∷ ns) u within =
    let here : n < length us = All-head (λ m. m < length us) n ns within in
    let rest : All (λ m. m < length us) ns = All-tail (λ m. m < length us) n ns within in
    let size : length (set us n u) ≡ length us = length-set us n u in
    let within' : All (λ m. m < length (set us n u)) ns =
    All-weaker (λ m. m < length us) (λ m. m < length (set us n u)) (λ m h. omega arith) ns rest in
    All-cons (λ m. slice_get (marked_uses (set us n u) ns u) m ≡ Some u) n ns
    (marked_kept (set us n u) ns u n (omega arith) (slice_get-set_same us n u here))
    (each_marked (set us n u) ns u within')

-- these numbers have this use in `vs`, and every other has the use that it had in `us`
pub record IsMarked (ns : List ℕ) (u : Use) (us vs : List Use) : Type 0 where
  pub size : length vs ≡ length us
  pub marked : All (λ n. slice_get vs n ≡ Some u) ns
  pub others : (n : ℕ) → (Contains ns n → ⊥) → slice_get vs n ≡ slice_get us n

pub marked_uses_marked : (ns : List ℕ) (u : Use) (us vs : List Use) → All (λ n. n < length us) ns
    → vs ≡ marked_uses us ns u → IsMarked ns u us vs
marked_uses_marked ns u us vs within is = record {
  size = ap length is ∙ length-marked_uses us ns u;
  marked = subst (λ (xs : List Use). All (λ n. slice_get xs n ≡ Some u) ns) (sym is) (each_marked us ns u within);
  others = λ m without. ap (λ xs. slice_get xs m) is ∙ other_kept us ns u m without;
}

pub Marks-from_marked : (ns : List ℕ) (u : Use) (old new : Allotment) → IsMarked ns u old.uses new.uses → Marks ns u old new
Marks-from_marked ns u old new m = record { size = m.size; marked = m.marked; others = m.others }

-- ---- how many uses pass a test

counted_one : (test : Use → Bool) (us : List Use) (n : ℕ) (u v : Use) → slice_get us n ≡ Some v
    → count_by test (set us n u) + cond (test v) 1 0 ≡ count_by test us + cond (test u) 1 0
counted_one test us n u v is =
    let within : n < length us = slice_get_within us n v is in
    let at : get_or us n v ≡ v = get_or_from_slice_get us n v v is in
    rw at at (sum_by-set (λ x. cond (test x) 1 0) us n u v within)

still_there : (us : List Use) (n : ℕ) (ns : List ℕ) (u v : Use) → IsDistinct nat_eq (n ∷ ns) → All (λ m. slice_get us m ≡ Some v) (n ∷ ns)
    → All (λ m. slice_get (set us n u) m ≡ Some v) ns
unfolding IsDistinct
still_there us n ns u v distinct was =
    let apart : All (λ m. nat_eq n m ≡ false) ns = All-from_recursion (λ m. nat_eq n m ≡ false) ns distinct.0 in
    let was' : All (λ m. slice_get us m ≡ Some v) ns = All-tail (λ m. slice_get us m ≡ Some v) n ns was in
    λ k d h. slice_get-set_other us n (get_or ns k d) u (differs n (get_or ns k d) (apart k d h)) ∙ was' k d h
  where
    differs : (a b : ℕ) → nat_eq a b ≡ false → b ≢ a
    differs a b e = elim (eqb_tells a b) [ inl same ↦ absurd (true≢false (sym same.0 ∙ e)) | inr other ↦ λ same. other.1 (sym same) ]

pub count_by-marked_uses : (test : Use → Bool) (us : List Use) (ns : List ℕ) (u v : Use) → IsDistinct nat_eq ns → All (λ n. slice_get us n ≡ Some v) ns
    → count_by test (marked_uses us ns u) + cond (test v) (length ns) 0 ≡ count_by test us + cond (test u) (length ns) 0
unfolding IsDistinct
count_by-marked_uses test us [] u v distinct was = none (test u) (test v)
  where
    none : (a b : Bool) → count_by test us + cond b 0 0 ≡ count_by test us + cond a 0 0
    none true true = refl
    none true false = refl
    none false true = refl
    none false false = refl
count_by-marked_uses test us (n ∷ ns) u v distinct was =
    joined (test u) (test v)
    (counted_one test us n u v (All-head (λ m. slice_get us m ≡ Some v) n ns was))
    (count_by-marked_uses test (set us n u) ns u v distinct.1 (still_there us n ns u v distinct was))
  where
    joined : (a b : Bool)
        → count_by test (set us n u) + cond b 1 0 ≡ count_by test us + cond a 1 0
        → count_by test (marked_uses (set us n u) ns u) + cond b (length ns) 0 ≡ count_by test (set us n u) + cond a (length ns) 0
        → count_by test (marked_uses (set us n u) ns u) + cond b (suc (length ns)) 0 ≡ count_by test us + cond a (suc (length ns)) 0
    joined true true one rest = omega arith
    joined true false one rest = omega arith
    joined false true one rest = omega arith
    joined false false one rest = omega arith
