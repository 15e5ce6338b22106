-- Numbers that are marked one list after the other.
use Rattle.std.proofs.Common.{◌≡◌, inl, inr, ℕ, List, [], ◌++◌, ◌∙◌, refl, All, Contains, slice_get, Some, nat_eq}
use Rattle.std.specs.List.{IsDistinct}
use Rattle.std.proofs.lemmas.List.Elements.{All-nil, All-append, All-contains, All-contains_itself, All-weaker, Contains-append_left, Contains-append_right}
use Rattle.bd_space.specs.declared.space.Use.{Use}
use Rattle.bd_space.specs.Allotment.{Allotment, IsFree, Marks}
use Rattle.bd_space.proofs.Distinct.{distinct_apart}
use Rattle.bd_space.proofs.Numbers.{Contains_decided}

pub marks_none : (u : Use) (space : Allotment) → Marks [] u space space
marks_none u space = record { size = refl; marked = All-nil (λ n. slice_get space.uses n ≡ Some u); others = λ n out. refl }

-- two lists, one after the other, are marked as one list
pub marks_both : (u : Use) (xs ys : List ℕ) (a b c : Allotment) → Marks xs u a b → Marks ys u b c → Marks (xs ++ ys) u a c
marks_both u xs ys a b c first then = record {
  size = then.size ∙ first.size;
  marked =
      All-append (λ n. slice_get c.uses n ≡ Some u) xs ys
      (All-weaker (λ n. slice_get b.uses n ≡ Some u) (λ n. slice_get c.uses n ≡ Some u)
      (λ n h. elim (Contains_decided ys n) [
        | inl here ↦ All-contains (λ m. slice_get c.uses m ≡ Some u) ys n then.marked here
        | inr out ↦ then.others n out ∙ h
      ]) xs first.marked)
      then.marked;
  others = λ n out. then.others n (λ here. out (Contains-append_right xs ys n here)) ∙ first.others n (λ here. out (Contains-append_left xs ys n here));
}

-- numbers that are free and don't stand among those that are marked stay free
pub free_behind : (u : Use) (xs ys : List ℕ) (a b : Allotment) → All (IsFree a) (xs ++ ys) → IsDistinct nat_eq (xs ++ ys) → Marks xs u a b → All (IsFree b) ys
free_behind u xs ys a b free distinct marks =
    All-weaker (Contains ys) (IsFree b)
    (λ n here. marks.others n (λ left. distinct_apart xs ys n distinct left here) ∙ All-contains (IsFree a) (xs ++ ys) n free (Contains-append_right xs ys n here))
    ys (All-contains_itself ys)

-- of numbers that are free, those in front are
pub free_front : (a : Allotment) (xs ys : List ℕ) → All (IsFree a) (xs ++ ys) → All (IsFree a) xs
free_front a xs ys free =
    All-weaker (Contains xs) (IsFree a) (λ n here. All-contains (IsFree a) (xs ++ ys) n free (Contains-append_left xs ys n here)) xs (All-contains_itself xs)
