-- Whether an entry is the first with its mark, by the first index of the mark.
use Rattle.std.proofs.Common.{◌≡◌, ℕ, zero, suc, ◌+◌, ◌<◌, ◌≤◌, true, false, cond, not, ◌||◌, List, [], ◌∷◌, refl, sym, ◌∙◌, ap, subst, arith, length, take, get_or, nat_eq, nat_lt, le-ltb, lt-ltb, unwrap_or, Some, None}
use Rattle.std.specs.Prelude.{slice_get}
use Rattle.std.specs.Str.{bytes_eq}
use Rattle.std.proofs.lemmas.Bool.{or_left}
use Rattle.std.proofs.lemmas.Option.{get_or_from_slice_get, slice_get_within}
use Rattle.bd_model.specs.Recipe.{has_mark}
use Rattle.bd_model.specs.declared.layout.RecipeEntry.{RecipeEntry}
use Rattle.bd_model.proofs.ChunkListLemmas.{bytes_eq-refl}
use Rattle.bd_recipe.specs.Marked.{first_from}
use Rattle.bd_recipe.proofs.NextOccurrence.{at_least, none-before_first}

-- a front has the mark exactly where it reaches past the first index
has_front : (i j n : ℕ) (es : List RecipeEntry) (m : List ℕ) → first_from i es m ≡ Some j → has_mark (take n es) m ≡ nat_lt j (i + n)
has_front i j zero es m = λ is. sym (le-ltb j (i + 0) (omega (arith, at_least i j es m is)))
has_front i j (suc n) [] m = λ is. absurd (cc)
has_front i j (suc n) (e ∷ es) m =
    elim (bytes_eq m e.mark.0) as (λ b. bytes_eq m e.mark.0 ≡ b → cond b (Some i) (first_from (i + 1) es m) ≡ Some j → has_mark (take (suc n) (e ∷ es)) m ≡ nat_lt j (i + suc n)) [
      | true ↦ λ same is.
          let here : i ≡ j = cc in
          or_left (bytes_eq m e.mark.0) (has_mark (take n es) m) same ∙ sym (lt-ltb j (i + suc n) (omega arith))
      | false ↦ λ other is.
          let past : i + 1 + n ≡ i + suc n = omega arith in
          ap (λ b. b || has_mark (take n es) m) other ∙ has_front (i + 1) j n es m is ∙ ap (nat_lt j) past
    ] refl

module _ (es : List RecipeEntry) (k : ℕ) (e : RecipeEntry) (at : slice_get es k ≡ Some e) where
  -- its mark occurs, no later than there
  no_later : (j : ℕ) → first_from 0 es e.mark.0 ≡ Some j → j ≤ k
  no_later j is =
      elim (nat_lt k j) as (λ b. nat_lt k j ≡ b → j ≤ k) [
        | true ↦ λ less.
            let below : k < unwrap_or (first_from 0 es e.mark.0) (length es) = subst (λ o. k < unwrap_or o (length es)) (sym is) (ltb k j less) in
            let other : bytes_eq e.mark.0 (get_or es k e).mark.0 ≡ false = none-before_first es e.mark.0 k e below in
            let same : bytes_eq e.mark.0 (get_or es k e).mark.0 ≡ true = ap (λ x. bytes_eq e.mark.0 x.mark.0) (get_or_from_slice_get es k e e at) ∙ bytes_eq-refl e.mark.0 in
            absurd (different (sym other ∙ same))
        | false ↦ λ more. not_less k j more
      ] refl
    where
      ltb : (a b : ℕ) → nat_lt a b ≡ true → a < b
      ltb a b is = grind arith

      not_less : (a b : ℕ) → nat_lt a b ≡ false → b ≤ a
      not_less a b is = grind arith

      different : false ≡ true → ⊥
      different h = cc

  pub is_first-some : (j : ℕ) → first_from 0 es e.mark.0 ≡ Some j → nat_eq j k ≡ not (has_mark (take k es) e.mark.0)
  is_first-some j is =
      ap (λ b. b) (same j k (no_later j is)) ∙ ap not (sym (has_front 0 j k es e.mark.0 is ∙ ap (nat_lt j) zero-add))
    where
      zero-add : 0 + k ≡ k
      zero-add = omega arith

      same : (a b : ℕ) → a ≤ b → nat_eq a b ≡ not (nat_lt a b)
      same a b le = grind arith

  -- and it does occur
  pub is_first-none : first_from 0 es e.mark.0 ≡ None → ⊥
  is_first-none none =
      let there : k < unwrap_or (first_from 0 es e.mark.0) (length es) = subst (λ o. k < unwrap_or o (length es)) (sym none) (slice_get_within es k e at) in
      let other : bytes_eq e.mark.0 (get_or es k e).mark.0 ≡ false = none-before_first es e.mark.0 k e there in
      let same : bytes_eq e.mark.0 (get_or es k e).mark.0 ≡ true = ap (λ x. bytes_eq e.mark.0 x.mark.0) (get_or_from_slice_get es k e e at) ∙ bytes_eq-refl e.mark.0 in
      different (sym other ∙ same)
    where
      different : false ≡ true → ⊥
      different h = cc
