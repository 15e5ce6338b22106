-- The taken numbers of a space against the lists of its owners.
use Rattle.std.proofs.Common.{◌≡◌, ◌≢◌, inl, inr, ℕ, zero, suc, ◌+◌, List, [], ◌∷◌, ◌++◌, length, true, refl, sym, ◌∙◌, ap, subst, arith, replicate, All, Contains, slice_get, Some, count_by, nat_eq}
use Rattle.std.specs.List.{IsDistinct}
use Rattle.std.specs.Prelude.{IsPermutation}
use Rattle.std.proofs.lemmas.List.Elements.{All-nil, All-append, All-contains, All-contains_itself, All-weaker, Contains-append_left, Contains-append_right, Contains-append_cases}
use Rattle.std.proofs.lemmas.List.Sorted.{All-permutation, Contains-permutation}
use Rattle.std.proofs.lemmas.Map.Keys.{IsDistinct-IsPermutation}
use Rattle.std.proofs.lemmas.Bool.Decides.{eqb_tells}
use Rattle.bd_space.specs.declared.space.Use.{Use}
use Rattle.bd_space.specs.declared.space.Use.TheVariants.{Free, Taken, Held}
use Rattle.bd_space.specs.Allotment.{Allotment, IsFree, IsTaken, is_taken, taken_count, Marks, TakenExactly}
use Rattle.bd_space.specs.Marking.{marked_uses}
use Rattle.bd_space.proofs.Numbers.{IsFound, found_in_numbers, length-numbers_from, Contains-head, Contains_decided}
use Rattle.bd_space.proofs.Marked.{IsMarked, marked_uses_marked, count_by-marked_uses}
use Rattle.bd_space.proofs.Kept.{All-within}
use Rattle.bd_space.proofs.Distinct.{IsDistinct-append, distinct_left, distinct_apart}
use Rattle.bd_space.proofs.Uses.{taken_after_taken, taken_still, taken_after_freed}

free≢taken : Some Free ≢ Some Taken
free≢taken e = cc

-- ---- a new space

free_only : (n k : ℕ) → slice_get (replicate n Free) k ≢ Some Taken
free_only zero k is = cc
free_only (suc n) zero is = free≢taken is
free_only (suc n) (suc k) is = free_only n k is

pub TakenExactly-new : (space : Allotment) (extents : ℕ) → space.uses ≡ replicate extents Free → TakenExactly space []
unfolding IsDistinct
TakenExactly-new space extents is = record {
  taken = All-nil (IsTaken space);
  others = λ n taken. absurd (free_only extents n (ap (λ us. slice_get us n) (sym is) ∙ taken));
  once = tt;
}

-- ---- taking and giving back

pub TakenExactly-append : (old new : Allotment) (numbers added : List ℕ) → TakenExactly old numbers → All (IsFree old) added → IsDistinct nat_eq added
    → Marks added Taken old new → TakenExactly new (numbers ++ added)
TakenExactly-append old new numbers added exact free once marks = record {
  taken =
      All-append (IsTaken new) numbers added
      (All-weaker (IsTaken old) (IsTaken new) (λ n h. taken_still added old new n marks h) numbers exact.taken) marks.marked;
  others = λ n taken. elim (taken_after_taken added old new n marks taken) [
    | inl now ↦ Contains-append_right numbers added n now
    | inr before ↦ Contains-append_left numbers added n (exact.others n before)
  ];
  once = IsDistinct-append numbers added exact.once once
      (λ n left right. free≢taken (sym (All-contains (IsFree old) added n free right) ∙ All-contains (IsTaken old) numbers n exact.taken left));
}

pub TakenExactly-left : (old new : Allotment) (kept given : List ℕ) → TakenExactly old (kept ++ given) → Marks given Free old new → TakenExactly new kept
TakenExactly-left old new kept given exact marks = record {
  taken = All-weaker (Contains kept) (IsTaken new) still kept (All-contains_itself kept);
  others = λ n taken. elim (Contains-append_cases kept given n (exact.others n (taken_after_freed given old new n marks taken).1)) [
    | inl left ↦ left
    | inr right ↦ absurd ((taken_after_freed given old new n marks taken).0 right)
  ];
  once = distinct_left kept given exact.once;
}
  where
    still : (n : ℕ) → Contains kept n → IsTaken new n
    still n within =
        marks.others n (λ c. distinct_apart kept given n exact.once within c)
        ∙ All-contains (IsTaken old) (kept ++ given) n exact.taken (Contains-append_left kept given n within)

flips : (x y : ℕ) → nat_eq x y ≡ nat_eq y x
flips x y = elim (eqb_tells x y) [
  | inl same ↦ subst (λ z. nat_eq x z ≡ nat_eq z x) same.1 refl
  | inr differ ↦ elim (eqb_tells y x) [ inl same ↦ absurd (differ.1 (sym same.1)) | inr other ↦ differ.0 ∙ sym other.0 ]
]

pub TakenExactly-permutation : (space : Allotment) (xs ys : List ℕ) → IsPermutation xs ys → TakenExactly space xs → TakenExactly space ys
TakenExactly-permutation space xs ys moved exact = record {
  taken = All-permutation (IsTaken space) xs ys moved exact.taken;
  others = λ n taken. Contains-permutation xs ys n moved (exact.others n taken);
  once = IsDistinct-IsPermutation nat_eq flips xs ys moved exact.once;
}

-- ---- how many are taken

none_counted : (us : List Use) → ((n : ℕ) → slice_get us n ≢ Some Taken) → count_by is_taken us ≡ 0
none_counted us none = sym (length-numbers_from is_taken 0 us) ∙ at _ (found_in_numbers is_taken 0 us)
  where
    at : (ns : List ℕ) → ((n : ℕ) → Contains ns n → IsFound is_taken 0 us n) → length ns ≡ 0
    at [] each = refl
    at (n ∷ ns) each = absurd (taken (each n (Contains-head n ns)))
      where
        by_use : (place : ℕ) (u : Use) → slice_get us place ≡ Some u → is_taken u ≡ true → ⊥
        by_use place Free found passes = cc
        by_use place Taken found passes = none place found
        by_use place Held found passes = cc

        taken : IsFound is_taken 0 us n → ⊥
        taken f = by_use f.place f.usage f.found f.passes

pub taken_count-exact : (space : Allotment) (numbers : List ℕ) → TakenExactly space numbers → taken_count space ≡ length numbers
taken_count-exact space numbers exact =
    let vs : List Use = marked_uses space.uses numbers Free in
    let marks = marked_uses_marked numbers Free space.uses vs (All-within space.uses Taken numbers exact.taken) refl in
    let counted : count_by is_taken vs + length numbers ≡ count_by is_taken space.uses + 0 =
    count_by-marked_uses is_taken space.uses numbers Free Taken exact.once exact.taken in
    let none : count_by is_taken vs ≡ 0 = none_counted vs (gone vs marks) in
    omega arith
  where
    gone : (vs : List Use) → IsMarked numbers Free space.uses vs → (n : ℕ) → slice_get vs n ≢ Some Taken
    gone vs marks n is = elim (Contains_decided numbers n) [
      | inl within ↦ free≢taken (sym (All-contains (λ m. slice_get vs m ≡ Some Free) numbers n marks.marked within) ∙ is)
      | inr without ↦ without (exact.others n (sym (marks.others n without) ∙ is))
    ]
