-- Lists in which no number stands twice.
use Rattle.std.proofs.Common.{◌≡◌, inl, inr, ℕ, List, [], ◌∷◌, ◌++◌, false, refl, sym, ◌∙◌, subst, Contains, nat_eq}
use Rattle.std.specs.List.{IsDistinct}
use Rattle.std.proofs.lemmas.List.Elements.{All-contains, All-from_recursion, recursion_from_All, All-weaker, All-contains_itself, Contains-append_left, Contains-append_right, Contains-append_cases}
use Rattle.std.proofs.lemmas.Bool.{true≢false}
use Rattle.std.proofs.lemmas.Bool.Decides.{eqb_tells}
use Rattle.bd_space.proofs.Numbers.{Contains-nil, Contains-cons_cases, Contains-head, Contains-tail}

-- the first number isn't among the others
pub distinct_head : (x : ℕ) (xs : List ℕ) → IsDistinct nat_eq (x ∷ xs) → Contains xs x → ⊥
unfolding IsDistinct
distinct_head x xs d c =
    let differs : nat_eq x x ≡ false = All-contains (λ y. nat_eq x y ≡ false) xs x (All-from_recursion (λ y. nat_eq x y ≡ false) xs d.0) c in
    elim (eqb_tells x x) [ inl same ↦ true≢false (sym same.0 ∙ differs) | inr other ↦ other.1 refl ]

pub distinct_cons : (x : ℕ) (xs : List ℕ) → (Contains xs x → ⊥) → IsDistinct nat_eq xs → IsDistinct nat_eq (x ∷ xs)
unfolding IsDistinct
distinct_cons x xs apart d = (recursion_from_All (λ y. nat_eq x y ≡ false) xs (All-weaker (Contains xs) (λ y. nat_eq x y ≡ false) other xs (All-contains_itself xs)), d)
  where
    other : (y : ℕ) → Contains xs y → nat_eq x y ≡ false
    other y c = elim (eqb_tells x y) [ inl same ↦ absurd (apart (subst (Contains xs) (sym same.1) c)) | inr differ ↦ differ.0 ]

pub distinct_tail : (x : ℕ) (xs : List ℕ) → IsDistinct nat_eq (x ∷ xs) → IsDistinct nat_eq xs
unfolding IsDistinct
distinct_tail x xs d = d.1

pub IsDistinct-append : (xs ys : List ℕ) → IsDistinct nat_eq xs → IsDistinct nat_eq ys → ((n : ℕ) → Contains xs n → Contains ys n → ⊥)
    → IsDistinct nat_eq (xs ++ ys)
IsDistinct-append [] ys dx dy apart = dy
IsDistinct-append (x ∷ xs) ys dx dy apart =
    distinct_cons x (xs ++ ys)
    (λ c. elim (Contains-append_cases xs ys x c) [ inl here ↦ distinct_head x xs dx here | inr there ↦ apart x (Contains-head x xs) there ])
    (IsDistinct-append xs ys (distinct_tail x xs dx) dy (λ n c. apart n (Contains-tail x n xs c)))

pub distinct_left : (xs ys : List ℕ) → IsDistinct nat_eq (xs ++ ys) → IsDistinct nat_eq xs
unfolding IsDistinct
distinct_left [] ys d = tt
distinct_left (x ∷ xs) ys d =
    distinct_cons x xs (λ c. distinct_head x (xs ++ ys) d (Contains-append_left xs ys x c)) (distinct_left xs ys (distinct_tail x (xs ++ ys) d))

pub distinct_right : (xs ys : List ℕ) → IsDistinct nat_eq (xs ++ ys) → IsDistinct nat_eq ys
distinct_right [] ys d = d
distinct_right (x ∷ xs) ys d = distinct_right xs ys (distinct_tail x (xs ++ ys) d)

pub distinct_apart : (xs ys : List ℕ) (n : ℕ) → IsDistinct nat_eq (xs ++ ys) → Contains xs n → Contains ys n → ⊥
distinct_apart [] ys n d left right = Contains-nil n left
distinct_apart (x ∷ xs) ys n d left right = elim (Contains-cons_cases x n xs left) [
  | inl same ↦ distinct_head x (xs ++ ys) d (Contains-append_right xs ys x (subst (Contains ys) (sym same) right))
  | inr later ↦ distinct_apart xs ys n (distinct_tail x (xs ++ ys) d) later right
]
