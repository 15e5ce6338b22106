-- The extents of a whole catalogue, claimed kind after kind.
use Rattle.std.proofs.Common.{◌≡◌, ℕ, zero, suc, ◌<◌, Bool, true, List, [], ◌∷◌, ◌++◌, refl, sym, ◌∙◌, ap, subst, arith, replicate, All, slice_get, Some, nat_eq, nat_lt}
use Rattle.std.specs.List.{IsDistinct, flat_map, list_all}
use Rattle.std.proofs.lemmas.Bool.{ltb-true}
use Rattle.std.proofs.lemmas.List.Elements.{All-nil, All-cons}
use Rattle.bd_model.proofs.ListLemmas.{left_and, right_and}
use Rattle.bd_space.specs.declared.space.Use.TheVariants.{Free, Taken}
use Rattle.bd_space.specs.Allotment.{Allotment, IsFree, Marks, TakenExactly}
use Rattle.bd_space.proofs.Distinct.{distinct_left, distinct_right}
use Rattle.bd_space.proofs.InTurn.{marks_both, free_behind, free_front}
use Rattle.bd_space.proofs.Exact.{TakenExactly-new, TakenExactly-append}
use Rattle.bd_model.specs.Sizes.{Sizes, sizes_of}
use Rattle.bd_model.specs.declared.shape.Shape.{Shape}
use Rattle.bd_roll.specs.Catalogue.{Catalogue, VersionEntry, VolumeEntry, OpenEntry, all_extents}
use Rattle.bd_roll.specs.Rules.{obeys, all_differ}
use Rattle.bd_roll.proofs.RuleLemmas.{rules_of, distinct_of}

free_of : (k n : ℕ) → n < k → slice_get (replicate k Free) n ≡ Some Free
free_of zero n below = absurd (omega arith)
free_of (suc k) zero below = refl
free_of (suc k) (suc n) below = free_of k n (omega arith)

all_free : (top : ℕ) (space : Allotment) (ns : List ℕ) → space.uses ≡ replicate top Free → list_all (λ n. nat_lt n top) ns ≡ true → All (IsFree space) ns
all_free top space [] new below = All-nil (IsFree space)
all_free top space (n ∷ ns) new below =
    All-cons (IsFree space) n ns
    (ap (λ us. slice_get us n) new ∙ free_of top n (ltb-true n top (left_and (nat_lt n top) (list_all (λ m. nat_lt m top) ns) below)))
    (all_free top space ns new (right_and (nat_lt n top) (list_all (λ m. nat_lt m top) ns) below))

-- the lists of three kinds of owners, of a catalogue that obeys its rules
pub record IsOwned (s : Sizes) (c : Catalogue) (xs ys zs : List ℕ) (space : Allotment) : Type 0 where
  pub obeyed : obeys s c ≡ true
  pub lists : all_extents c ≡ xs ++ ys ++ zs
  pub new : space.uses ≡ replicate s.extents Free

module _ (s : Sizes) (c : Catalogue) (xs ys zs : List ℕ) (space : Allotment) (owned : IsOwned s c xs ys zs space) where
  abbrev below : Bool
  below = list_all (λ n. nat_lt n s.extents) (all_extents c)

  free_all : All (IsFree space) (xs ++ ys ++ zs)
  free_all = subst (All (IsFree space)) owned.lists (all_free s.extents space (all_extents c) owned.new (left_and below (all_differ (all_extents c)) (rules_of s c owned.obeyed).extents))

  distinct_all : IsDistinct nat_eq (xs ++ ys ++ zs)
  distinct_all = subst (IsDistinct nat_eq) owned.lists (distinct_of (all_extents c) (right_and below (all_differ (all_extents c)) (rules_of s c owned.obeyed).extents))

  pub first_free : All (IsFree space) xs
  first_free = free_front space xs ys (free_front space (xs ++ ys) zs free_all)

  pub first_distinct : IsDistinct nat_eq xs
  first_distinct = distinct_left xs ys (distinct_left (xs ++ ys) zs distinct_all)

  module _ (one : Allotment) (first : Marks xs Taken space one) where
    pub second_free : All (IsFree one) ys
    second_free = free_behind Taken xs ys space one (free_front space (xs ++ ys) zs free_all) (distinct_left (xs ++ ys) zs distinct_all) first

    pub second_distinct : IsDistinct nat_eq ys
    second_distinct = distinct_right xs ys (distinct_left (xs ++ ys) zs distinct_all)

    module _ (two : Allotment) (second : Marks ys Taken one two) where
      pub third_free : All (IsFree two) zs
      third_free = free_behind Taken (xs ++ ys) zs space two free_all distinct_all (marks_both Taken xs ys space one two first second)

      pub third_distinct : IsDistinct nat_eq zs
      third_distinct = distinct_right (xs ++ ys) zs distinct_all

      pub all_taken : (three : Allotment) → Marks zs Taken two three → TakenExactly three (all_extents c)
      all_taken three third =
          subst (TakenExactly three) (sym owned.lists)
          (TakenExactly-append space three [] (xs ++ ys ++ zs) (TakenExactly-new space s.extents owned.new) free_all distinct_all
          (marks_both Taken (xs ++ ys) zs space two three (marks_both Taken xs ys space one two first second) third))

pub owned : (shape : Shape) (s : Sizes) (c : Catalogue) (xs ys zs : List ℕ) (space : Allotment) (n : ℕ) → obeys s c ≡ true → sizes_of shape ≡ s → n ≡ shape.extents → space.uses ≡ replicate n Free
    → flat_map (λ (e : VersionEntry). e.extents) c.versions ≡ xs → flat_map (λ (e : VolumeEntry). e.extents) c.volumes ≡ ys → flat_map (λ (e : OpenEntry). e.extents) c.actives ≡ zs
    → IsOwned s c xs ys zs space
owned shape s c xs ys zs space n obeyed sizes count new first second third = record {
  obeyed = obeyed;
  lists = λ i. first i ++ second i ++ third i;
  new = new ∙ ap (λ m. replicate m Free) (count ∙ ap (λ (t : Sizes). t.extents) sizes);
}
