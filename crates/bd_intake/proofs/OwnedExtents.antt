-- What is taken of a space, one extent after the other.
use Rattle.std.proofs.Common.{◌≡◌, ℕ, ◌<◌, List, [], ◌++◌, length, refl, sym, ◌∙◌, ap, subst, arith, append_assoc, length-append, nat_eq, Some}
use Rattle.std.specs.Prelude.{All, Contains, IsPermutation, slice_get}
use Rattle.std.specs.List.{IsDistinct}
use Rattle.std.proofs.lemmas.List.{append-nil}
use Rattle.std.proofs.lemmas.List.Elements.{All-nil, All-append, All-contains, All-contains_itself, All-weaker, Contains-append_left, Contains-append_right}
use Rattle.std.proofs.lemmas.List.Sorted.{IsPermutation-append_comm, IsPermutation-append_right, All-permutation}
use Rattle.std.proofs.lemmas.Map.Made.{AllPairs-from_IsDistinct}
use Rattle.std.proofs.lemmas.Bool.Decides.{Decides-eqb}
use Rattle.std.proofs.lemmas.Option.{slice_get_within}
use Rattle.bd_space.specs.declared.space.Use.TheVariants.{Taken}
use Rattle.bd_space.specs.Allotment.{Allotment, extent_count, IsFree, IsTaken, TakenExactly}
use Rattle.bd_space.proofs.Distinct.{distinct_left, distinct_right, distinct_apart}
use Rattle.bd_space.proofs.Exact.{TakenExactly-append, TakenExactly-permutation}
use Rattle.bd_space.proofs.Kept.{still_free}
use Rattle.bd_space.proofs.Marked.{IsMarked}
use Rattle.bd_model.specs.Sizes.{Sizes}
use Rattle.bd_intake.specs.Places.{OwnersAreApart}
use Rattle.bd_intake.specs.Spaces.{Adds, Owns}

pub adds_none : (space : Allotment) (xs : List ℕ) → Adds space space xs xs
unfolding IsDistinct
adds_none space xs = record {
  added = [];
  so = sym (append-nil xs);
  were_free = All-nil (IsFree space);
  once = tt;
  marked = record { size = refl; marked = All-nil (λ n. slice_get space.uses n ≡ Some Taken); others = λ n without. refl };
  counted = omega arith;
  held = refl;
}

-- two lists in the other order
turned : (base one other : List ℕ) → IsPermutation (base ++ one ++ other) (base ++ other ++ one)
turned base one other =
    subst (λ xs. IsPermutation xs (base ++ other ++ one)) (sym (append_assoc base one other))
    (subst (IsPermutation (base ++ (one ++ other))) (sym (append_assoc base other one)) (IsPermutation-append_right base (one ++ other) (other ++ one) (IsPermutation-append_comm one other)))

module _ (base : List ℕ) (first old new : Allotment) (recipe fresh : List ℕ) (owns : Owns base first old recipe fresh) where
  -- the records' owner went on
  pub owns_fresh : (after : List ℕ) → Adds old new fresh after → Owns base first new recipe after
  owns_fresh after adds =
      let were : All (IsFree first) adds.added = All-weaker (IsFree old) (IsFree first) owns.still adds.added adds.were_free in
      let marked : IsMarked adds.added Taken old.uses new.uses = record { size = adds.marked.size; marked = adds.marked.marked; others = adds.marked.others } in
      record {
        exact = subst (TakenExactly new) (append_assoc (base ++ recipe) fresh adds.added ∙ ap (λ xs. base ++ recipe ++ xs) (sym adds.so))
            (TakenExactly-append old new (base ++ recipe ++ fresh) adds.added owns.exact adds.were_free adds.once adds.marked);
        were_free = subst (All (IsFree first)) (append_assoc recipe fresh adds.added ∙ ap (λ xs. recipe ++ xs) (sym adds.so))
            (All-append (IsFree first) (recipe ++ fresh) adds.added owns.were_free were);
        still = λ n free. owns.still n (still_free adds.added old.uses new.uses n marked free).1;
        size = adds.marked.size ∙ owns.size;
        counted = omega (arith, owns.counted, adds.counted, ap length adds.so, length-append fresh adds.added);
        held = adds.held ∙ owns.held;
      }

-- the two lists in the other order
owns_turned : (base : List ℕ) (first space : Allotment) (one other : List ℕ) → Owns base first space one other → Owns base first space other one
owns_turned base first space one other owns = record {
  exact = TakenExactly-permutation space (base ++ one ++ other) (base ++ other ++ one) (turned base one other) owns.exact;
  were_free = All-permutation (IsFree first) (one ++ other) (other ++ one) (IsPermutation-append_comm one other) owns.were_free;
  still = owns.still;
  size = owns.size;
  counted = omega (arith, owns.counted);
  held = owns.held;
}

-- the recipe's owner went on
pub owns_recipe : (base : List ℕ) (first old new : Allotment) (recipe fresh after : List ℕ) → Owns base first old recipe fresh → Adds old new recipe after → Owns base first new after fresh
owns_recipe base first old new recipe fresh after owns adds =
    owns_turned base first new fresh after (owns_fresh base first old new fresh recipe (owns_turned base first old recipe fresh owns) after adds)

-- nothing is staged
pub owns_nothing : (base : List ℕ) (space : Allotment) → TakenExactly space base → Owns base space space [] []
owns_nothing base space exact = record {
  exact = subst (TakenExactly space) (sym (append-nil (base ++ []) ∙ append-nil base)) exact;
  were_free = All-nil (IsFree space);
  still = λ n free. free;
  size = refl;
  counted = omega arith;
  held = refl;
}

-- the extents of both owners are some that there are, and no two of them are the same
pub owns_apart : (s : Sizes) (base : List ℕ) (first space : Allotment) (recipe fresh : List ℕ) → extent_count first ≡ s.extents → Owns base first space recipe fresh → OwnersAreApart s recipe fresh
owns_apart s base first space recipe fresh count owns =
    let all : List ℕ = recipe ++ fresh in
    let exact : TakenExactly space (base ++ all) = subst (TakenExactly space) (append_assoc base recipe fresh) owns.exact in
    let once : IsDistinct nat_eq all = distinct_right base all exact.once in
    let below : (n : ℕ) → Contains all n → n < s.extents = λ n has.
    let within : n < extent_count space = slice_get_within space.uses n Taken (All-contains (IsTaken space) (base ++ all) n exact.taken (Contains-append_right base all n has)) in omega (arith, within, owns.size, count) in
    record {
      recipe_extents = record {
        below = All-weaker (Contains recipe) (λ e. e < s.extents) (λ n has. below n (Contains-append_left recipe fresh n has)) recipe (All-contains_itself recipe);
        differ = AllPairs-from_IsDistinct Decides-eqb recipe (distinct_left recipe fresh once);
      };
      fresh_extents = record {
        below = All-weaker (Contains fresh) (λ e. e < s.extents) (λ n has. below n (Contains-append_right recipe fresh n has)) fresh (All-contains_itself fresh);
        differ = AllPairs-from_IsDistinct Decides-eqb fresh (distinct_right recipe fresh once);
      };
      apart = λ e in_recipe in_fresh. distinct_apart recipe fresh e once in_recipe in_fresh;
    }

-- the numbers that were taken last, beside others
pub last_taken : (space : Allotment) (kept last : List ℕ) → TakenExactly space (kept ++ last) → All (IsTaken space) last
last_taken space kept last exact =
    All-weaker (Contains last) (IsTaken space) (λ n has. All-contains (IsTaken space) (kept ++ last) n exact.taken (Contains-append_right kept last n has)) last (All-contains_itself last)

pub last_once : (space : Allotment) (kept last : List ℕ) → TakenExactly space (kept ++ last) → IsDistinct nat_eq last
last_once space kept last exact = distinct_right kept last exact.once

-- the same of both lists together
pub owns_last : (base : List ℕ) (first space : Allotment) (recipe fresh : List ℕ) → Owns base first space recipe fresh → TakenExactly space (base ++ (recipe ++ fresh))
owns_last base first space recipe fresh owns = subst (TakenExactly space) (append_assoc base recipe fresh) owns.exact

-- the numbers that are taken are among those that there are
pub taken_below : (space : Allotment) (numbers : List ℕ) {top : ℕ} → extent_count space ≡ top → TakenExactly space numbers → All (λ n. n < top) numbers
taken_below space numbers {top} count exact =
    All-weaker (IsTaken space) (λ n. n < top)
    (λ n taken. let within : n < extent_count space = slice_get_within space.uses n Taken taken in omega (arith, within, count))
    numbers exact.taken
