-- What a space keeps, after some numbers were marked.
use Rattle.std.proofs.Common.{◌≡◌, ◌≢◌, inl, inr, ℕ, ◌+◌, ◌-◌, ◌^◌, ◌<◌, ◌≤◌, List, ◌++◌, length, take, drop, refl, sym, ◌∙◌, ap, subst, arith, All, Contains, slice_get, Some, count_by, nat_eq, zero-add}
use Rattle.std.specs.List.{IsDistinct}
use Rattle.std.proofs.lemmas.List.{take-append-drop, length-take-le, take_rest, drop_at}
use Rattle.std.proofs.lemmas.List.Elements.{All-weaker, All-contains, Contains-append_cases}
use Rattle.std.proofs.lemmas.List.Sums.{count_by-le-length}
use Rattle.std.proofs.lemmas.Option.{slice_get_within}
use Rattle.bd_space.specs.declared.space.Use.{Use}
use Rattle.bd_space.specs.declared.space.Use.TheVariants.{Free, Taken}
use Rattle.bd_space.specs.Marking.{marked_uses, IsCountedRight}
use Rattle.bd_space.specs.Allotment.{is_free, is_held, numbers_from}
use Rattle.bd_space.proofs.Numbers.{numbers_from_le, numbers_from-below, length-numbers_from, Contains_decided}
use Rattle.bd_space.proofs.Lowest.{free_found, All-lowest, IsDistinct-lowest}
use Rattle.bd_space.proofs.Marked.{IsMarked, marked_uses_marked, count_by-marked_uses, length-marked_uses}

-- ---- numbers that all have one use

pub All-within : (us : List Use) (u : Use) (ns : List ℕ) → All (λ n. slice_get us n ≡ Some u) ns → All (λ n. n < length us) ns
All-within us u ns have = All-weaker (λ n. slice_get us n ≡ Some u) (λ n. n < length us) (λ n h. slice_get_within us n u h) ns have

-- ---- numbers that move from one use to another

-- these numbers were marked: `lost` free numbers were taken, or `gained` numbers were freed, and no other is held
pub record IsMoved (ns : List ℕ) (u : Use) (us vs : List Use) (gained lost : ℕ) : Type 0 where
  pub marks : IsMarked ns u us vs
  pub free : count_by is_free vs + lost ≡ count_by is_free us + gained
  pub held : count_by is_held vs ≡ count_by is_held us

pub moved_to_taken : (ns : List ℕ) (us vs : List Use) → IsDistinct nat_eq ns → All (λ n. slice_get us n ≡ Some Free) ns
    → vs ≡ marked_uses us ns Taken → IsMoved ns Taken us vs 0 (length ns)
moved_to_taken ns us vs distinct were is =
    let holds : count_by is_held vs + 0 ≡ count_by is_held us + 0 =
    ap (λ ws. count_by is_held ws + 0) is ∙ count_by-marked_uses is_held us ns Taken Free distinct were in
    record {
      marks = marked_uses_marked ns Taken us vs (All-within us Free ns were) is;
      free = ap (λ ws. count_by is_free ws + length ns) is ∙ count_by-marked_uses is_free us ns Taken Free distinct were;
      held = omega arith;
    }

pub moved_to_free : (ns : List ℕ) (us vs : List Use) → IsDistinct nat_eq ns → All (λ n. slice_get us n ≡ Some Taken) ns
    → vs ≡ marked_uses us ns Free → IsMoved ns Free us vs (length ns) 0
moved_to_free ns us vs distinct were is =
    let holds : count_by is_held vs + 0 ≡ count_by is_held us + 0 =
    ap (λ ws. count_by is_held ws + 0) is ∙ count_by-marked_uses is_held us ns Free Taken distinct were in
    record {
      marks = marked_uses_marked ns Free us vs (All-within us Taken ns were) is;
      free = ap (λ ws. count_by is_free ws + 0) is ∙ count_by-marked_uses is_free us ns Free Taken distinct were;
      held = omega arith;
    }

-- ---- claim, and what extend takes

pub few_taken : (us : List Use) (ns : List ℕ) (free held lowest : ℕ) → IsCountedRight us free held lowest → IsDistinct nat_eq ns
    → All (λ n. slice_get us n ≡ Some Free) ns → length ns ≤ free
few_taken us ns free held lowest kept distinct were =
    let moved = moved_to_taken ns us (marked_uses us ns Taken) distinct were refl in
    omega (arith, moved.free, kept.free_counted)

taken≢free : Some Taken ≢ Some Free
taken≢free e = cc

-- a number that is free after others were taken is none of them, and was free
pub still_free : (ns : List ℕ) (us vs : List Use) (n : ℕ) → IsMarked ns Taken us vs → slice_get vs n ≡ Some Free
    → (Contains ns n → ⊥) × (slice_get us n ≡ Some Free)
still_free ns us vs n m now =
    let apart : Contains ns n → ⊥ = λ c. taken≢free (sym (All-contains (λ k. slice_get vs k ≡ Some Taken) ns n m.marked c) ∙ now) in
    (apart, sym (m.others n apart) ∙ now)

pub kept_taken : (us vs : List Use) (ns : List ℕ) (free held lowest : ℕ) → IsCountedRight us free held lowest → IsDistinct nat_eq ns
    → All (λ n. slice_get us n ≡ Some Free) ns → vs ≡ marked_uses us ns Taken → IsCountedRight vs (free - length ns) held lowest
kept_taken us vs ns free held lowest kept distinct were is =
    let moved = moved_to_taken ns us vs distinct were is in
    record {
      small = omega (arith, kept.small, moved.marks.size);
      free_counted = omega (arith, kept.free_counted, moved.free);
      held_counted = kept.held_counted ∙ sym moved.held;
      below = λ n h now. kept.below n h (still_free ns us vs n moved.marks now).1;
    }

-- ---- give_back

pub few_freed : (us : List Use) (ns : List ℕ) (free held lowest : ℕ) → IsCountedRight us free held lowest → IsDistinct nat_eq ns
    → All (λ n. slice_get us n ≡ Some Taken) ns → free + length ns < 2 ^ 32
few_freed us ns free held lowest kept distinct were =
    let vs : List Use = marked_uses us ns Free in
    let moved = moved_to_free ns us vs distinct were refl in
    omega (arith, moved.free, kept.free_counted, kept.small, count_by-le-length is_free vs, length-marked_uses us ns Free)

pub kept_freed : (us vs : List Use) (ns : List ℕ) (free held lowest least : ℕ) → IsCountedRight us free held lowest → IsDistinct nat_eq ns
    → All (λ n. slice_get us n ≡ Some Taken) ns → vs ≡ marked_uses us ns Free → least ≤ lowest → All (λ n. least ≤ n) ns
    → IsCountedRight vs (free + length ns) held least
kept_freed us vs ns free held lowest least kept distinct were is low all =
    let moved = moved_to_free ns us vs distinct were is in
    record {
      small = omega (arith, kept.small, moved.marks.size);
      free_counted = omega (arith, kept.free_counted, moved.free);
      held_counted = kept.held_counted ∙ sym moved.held;
      below = λ n h now. elim (Contains_decided ns n) [
        | inl within ↦ absurd (let above : least ≤ n = All-contains (λ m. least ≤ m) ns n all within in omega arith)
        | inr without ↦ kept.below n (omega arith) (sym (moved.marks.others n without) ∙ now)
      ];
    }

-- ---- extend

-- from the place below which nothing is free, the free numbers are all of them
pub from_lowest : (us : List Use) (free held lowest : ℕ) → IsCountedRight us free held lowest
    → numbers_from is_free lowest (drop lowest us) ≡ numbers_from is_free 0 us
from_lowest us free held lowest kept =
    ap (λ n. numbers_from is_free n (drop lowest us)) (sym (zero-add lowest)) ∙ numbers_from-below 0 lowest us kept.below

-- what was appended is what stands behind the first numbers
pub appended_part : (all old added : List ℕ) (known : ℕ) → all ≡ old ++ added → known ≡ length old
    → take (length all - known) (drop known all) ≡ added
appended_part all old added known is size =
    take_rest all known ∙ ap (drop known) is ∙ drop_at old added known (sym size)

length-taken : (us : List Use) (count free held lowest : ℕ) → IsCountedRight us free held lowest → count ≤ free
    → length (take count (numbers_from is_free 0 us)) ≡ count
length-taken us count free held lowest kept enough =
    length-take-le count (numbers_from is_free 0 us) (omega (arith, kept.free_counted, length-numbers_from is_free 0 us))

pub kept_extended : (us vs : List Use) (count free held lowest place : ℕ) → IsCountedRight us free held lowest → count ≤ free
    → vs ≡ marked_uses us (take count (numbers_from is_free 0 us)) Taken
    → numbers_from is_free place (drop place us) ≡ drop count (numbers_from is_free 0 us)
    → IsCountedRight vs (free - count) held place
kept_extended us vs count free held lowest place kept enough is rest =
    let all : List ℕ = numbers_from is_free 0 us in
    let were = All-lowest count us in
    let distinct = IsDistinct-lowest count us in
    let taken = kept_taken us vs (take count all) free held lowest kept distinct were is in
    record {
      small = taken.small;
      free_counted = omega (arith, taken.free_counted, length-taken us count free held lowest kept enough);
      held_counted = taken.held_counted;
      below = λ n h now.
          let before = still_free (take count all) us vs n (moved_to_taken (take count all) us vs distinct were is).marks now in
          let among : Contains (take count all ++ drop count all) n =
          subst (λ xs. Contains xs n) (sym (take-append-drop count all)) (free_found us n before.1) in
          elim (Contains-append_cases (take count all) (drop count all) n among) [
            | inl within ↦ before.0 within
            | inr later ↦ absurd (
                let above : place ≤ n =
                All-contains (λ m. place ≤ m) (numbers_from is_free place (drop place us)) n (numbers_from_le is_free place (drop place us))
                (subst (λ xs. Contains xs n) (sym rest) later) in
                omega arith)
          ];
    }

-- the uses after the lowest free numbers were taken
pub moved_by_extend : (count : ℕ) (old us seen ws vs : List Use) (free held lowest : ℕ) → IsCountedRight us free held lowest → count ≤ free
    → us ≡ old → seen ≡ us → vs ≡ ws → ws ≡ marked_uses seen (take count (numbers_from is_free 0 seen)) Taken
    → IsMoved (take count (numbers_from is_free 0 old)) Taken old vs 0 count
moved_by_extend count old us seen ws vs free held lowest kept enough was same is marked =
    let moved = moved_to_taken (take count (numbers_from is_free 0 old)) old vs (IsDistinct-lowest count old) (All-lowest count old)
    (is ∙ marked ∙ ap (λ xs. marked_uses xs (take count (numbers_from is_free 0 xs)) Taken) (same ∙ was)) in
    let many : length (take count (numbers_from is_free 0 old)) ≡ count =
    ap (λ xs. length (take count (numbers_from is_free 0 xs))) (sym was) ∙ length-taken us count free held lowest kept enough in
    record {
      marks = moved.marks;
      free = ap (λ n. count_by is_free vs + n) (sym many) ∙ moved.free;
      held = moved.held;
    }
