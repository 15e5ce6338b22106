-- The entries with one mark, visited from each to the next.
use Rattle.std.proofs.Common.{◌≡◌, ℕ, suc, ◌+◌, ◌-◌, ◌≤◌, ◌<◌, true, false, cond, List, [], ◌∷◌, length, length-drop, drop, get_or, get_or-drop, refl, sym, ◌∙◌, ap, arith, subst, Some, IfSome, unwrap_or, ⊎_elim}
use Rattle.std.specs.Str.{bytes_eq}
use Rattle.std.proofs.lemmas.Bool.{cases_eq}
use Rattle.bd_model.specs.declared.layout.RecipeEntry.{RecipeEntry}
use Rattle.bd_recipe.specs.Marked.{first_from, next_after}
use Rattle.bd_recipe.proofs.EntriesByMark.{first_from-within, next_here}

-- ---- from an index on

pub at_least : (i j : ℕ) (es : List RecipeEntry) (m : List ℕ) → first_from i es m ≡ Some j → i ≤ j
at_least i j es m is =
    let at : (i ≤ j) × (j < i + length es) = subst (λ o. IfSome o (λ k. (i ≤ k) × (k < i + length es))) is (first_from-within i es m) in
    at.0

-- the entry at the first index has the mark
first_from-marked : (i j : ℕ) (es : List RecipeEntry) (m : List ℕ) (d : RecipeEntry) → first_from i es m ≡ Some j → bytes_eq m (get_or es (j - i) d).mark.0 ≡ true
first_from-marked i j [] m d = λ is. absurd (cc)
first_from-marked i j (e ∷ es) m d =
    elim (bytes_eq m e.mark.0) as (λ t. bytes_eq m e.mark.0 ≡ t → cond t (Some i) (first_from (i + 1) es m) ≡ Some j → bytes_eq m (get_or (e ∷ es) (j - i) d).mark.0 ≡ true) [
      | true ↦ λ same is.
          let first : i ≡ j = cc in
          let here : j - i ≡ 0 = omega arith in
          ap (λ k. bytes_eq m (get_or (e ∷ es) k d).mark.0) here ∙ same
      | false ↦ λ other is.
          let past : j - i ≡ suc (j - (i + 1)) = omega (arith, at_least (i + 1) j es m is) in
          ap (λ k. bytes_eq m (get_or (e ∷ es) k d).mark.0) past ∙ first_from-marked (i + 1) j es m d is
    ] refl

-- no entry before it has the mark; where there is none, no entry at all
none_before : (i k : ℕ) (es : List RecipeEntry) (m : List ℕ) (d : RecipeEntry) → i ≤ k → k < unwrap_or (first_from i es m) (i + length es) → bytes_eq m (get_or es (k - i) d).mark.0 ≡ false
none_before i k [] m d low = λ high. absurd (omega arith)
none_before i k (e ∷ es) m d low =
    elim (bytes_eq m e.mark.0) as (λ t. bytes_eq m e.mark.0 ≡ t → k < unwrap_or (cond t (Some i) (first_from (i + 1) es m)) (i + length (e ∷ es)) → bytes_eq m (get_or (e ∷ es) (k - i) d).mark.0 ≡ false) [
      | true ↦ λ same high. absurd (omega arith)
      | false ↦ λ other high.
          ⊎_elim
          (λ first.
          let here : k - i ≡ 0 = omega arith in
          ap (λ n. bytes_eq m (get_or (e ∷ es) n d).mark.0) here ∙ other)
          (λ more.
          let past : k - i ≡ suc (k - (i + 1)) = omega (arith, more) in
          let end : i + length (e ∷ es) ≡ i + 1 + length es = omega arith in
          ap (λ n. bytes_eq m (get_or (e ∷ es) n d).mark.0) past ∙ none_before (i + 1) k es m d (omega (arith, more)) (subst (λ n. k < unwrap_or (first_from (i + 1) es m) n) end high))
          (cases_eq k i)
    ] refl

-- ---- the first

pub first-marked : (es : List RecipeEntry) (m : List ℕ) (j : ℕ) (d : RecipeEntry) → first_from 0 es m ≡ Some j → bytes_eq m (get_or es j d).mark.0 ≡ true
first-marked es m j d is =
    let here : j ≡ j - 0 = omega arith in
    ap (λ n. bytes_eq m (get_or es n d).mark.0) here ∙ first_from-marked 0 j es m d is

pub none-before_first : (es : List RecipeEntry) (m : List ℕ) (k : ℕ) (d : RecipeEntry) → k < unwrap_or (first_from 0 es m) (length es) → bytes_eq m (get_or es k d).mark.0 ≡ false
none-before_first es m k d high =
    let here : k ≡ k - 0 = omega arith in
    let end : length es ≡ 0 + length es = omega arith in
    ap (λ n. bytes_eq m (get_or es n d).mark.0) here ∙ none_before 0 k es m d (omega arith) (subst (λ n. k < unwrap_or (first_from 0 es m) n) end high)

-- ---- the next

module _ (es : List RecipeEntry) (i : ℕ) (inside : i < length es) (d : RecipeEntry) where
  later : next_after es i ≡ first_from (i + 1) (drop (i + 1) es) (get_or es i d).mark.0
  later = next_here es i (i + 1) refl inside d

  pub next-marked : (j : ℕ) → next_after es i ≡ Some j → bytes_eq (get_or es i d).mark.0 (get_or es j d).mark.0 ≡ true
  next-marked j is =
      let m = (get_or es i d).mark.0 in
      let at : first_from (i + 1) (drop (i + 1) es) m ≡ Some j = sym later ∙ is in
      let place : j ≡ i + 1 + (j - (i + 1)) = omega (arith, at_least (i + 1) j (drop (i + 1) es) m at) in
      ap (λ n. bytes_eq m (get_or es n d).mark.0) place
      ∙ ap (λ e. bytes_eq m e.mark.0) (sym (get_or-drop (i + 1) es (j - (i + 1)) d))
      ∙ first_from-marked (i + 1) j (drop (i + 1) es) m d at

  pub none-between : (k : ℕ) → i < k → k < unwrap_or (next_after es i) (length es) → bytes_eq (get_or es i d).mark.0 (get_or es k d).mark.0 ≡ false
  none-between k low high =
      let m = (get_or es i d).mark.0 in
      let place : k ≡ i + 1 + (k - (i + 1)) = omega arith in
      let end : length es ≡ i + 1 + length (drop (i + 1) es) = omega (arith, length-drop (i + 1) es) in
      let before : k < unwrap_or (first_from (i + 1) (drop (i + 1) es) m) (i + 1 + length (drop (i + 1) es)) = subst (λ n. k < unwrap_or (first_from (i + 1) (drop (i + 1) es) m) n) end (subst (λ o. k < unwrap_or o (length es)) later high) in
      ap (λ n. bytes_eq m (get_or es n d).mark.0) place
      ∙ ap (λ e. bytes_eq m e.mark.0) (sym (get_or-drop (i + 1) es (k - (i + 1)) d))
      ∙ none_before (i + 1) k (drop (i + 1) es) m d (omega arith) before
