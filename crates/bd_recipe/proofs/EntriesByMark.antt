-- Entries that are found by their mark.
use Rattle.std.proofs.Common.{◌≡◌, ℕ, suc, ◌+◌, ◌-◌, ◌≤◌, ◌<◌, ◌≢◌, ◌↔◌, true, false, cond, ◌||◌, List, [], ◌∷◌, length, length-drop, drop, set, get_or, get_or-set_same, get_or-set_other, refl, sym, ◌∙◌, ap, arith, subst, unwrap_or, Some, None, IfSome, is_some, IsNone, ⊎_elim, option_map, nat_lt, ltb-true}
use Rattle.std.proofs.lemmas.Bool.{cases_eq}
use Rattle.std.proofs.lemmas.List.{drop_more, get_or_default}
use Rattle.std.specs.Prelude.{Option}
use Rattle.std.specs.Str.{bytes_eq}
use Rattle.bd_model.specs.Recipe.{has_mark}
use Rattle.bd_model.proofs.ChunkListLemmas.{bytes_eq-sym}
use Rattle.bd_model.specs.Laws.{start_in}
use Rattle.bd_model.specs.declared.layout.RecipeEntry.{RecipeEntry}
use Rattle.bd_recipe.specs.Marked.{first_from, first_with, next_from, next_after, IsIndexOf}

-- ---- the first index

if_some : {T : Type 0} (o : Option T) (P Q : T → Type 0) → IfSome o P → ((x : T) → P x → Q x) → IfSome o Q
if_some None P Q p step = tt
if_some (Some x) P Q p step = step x p

pub first_from-within : (i : ℕ) (es : List RecipeEntry) (m : List ℕ) → IfSome (first_from i es m) (λ j. (i ≤ j) × (j < i + length es))
first_from-within i [] m = tt
first_from-within i (e ∷ es) m =
    elim (bytes_eq m e.mark.0) as (λ t. IfSome (cond t (Some i) (first_from (i + 1) es m)) (λ j. (i ≤ j) × (j < i + length (e ∷ es)))) [
      | true ↦ (omega arith, omega arith)
      | false ↦ if_some (first_from (i + 1) es m) _ _ (first_from-within (i + 1) es m) (λ j at. (omega (arith, at), omega (arith, at)))
    ]

pub first_from-some : (i : ℕ) (es : List RecipeEntry) (m : List ℕ) → is_some (first_from i es m) ≡ has_mark es m
first_from-some i [] m = refl
first_from-some i (e ∷ es) m =
    elim (bytes_eq m e.mark.0) as (λ t. is_some (cond t (Some i) (first_from (i + 1) es m)) ≡ (t || has_mark es m)) [
      | true ↦ refl
      | false ↦ first_from-some (i + 1) es m
    ]

-- the first index is none exactly where no entry has the mark
pub none_exactly : (es : List RecipeEntry) (m : List ℕ) (o : Option ℕ) → o ≡ first_from 0 es m → IsNone o ↔ (has_mark es m ≡ false)
none_exactly es m o is =
    let same : is_some o ≡ has_mark es m = ap is_some is ∙ first_from-some 0 es m in
    (λ none. sym same ∙ none, λ none. same ∙ none)

pub index_within : (es : List RecipeEntry) (m : List ℕ) (j : ℕ) → Some j ≡ first_from 0 es m → j < length es
index_within es m j is =
    let at : (0 ≤ j) × (j < 0 + length es) = subst (λ o. IfSome o (λ k. (0 ≤ k) × (k < 0 + length es))) (sym is) (first_from-within 0 es m) in
    omega (arith, at)

-- ---- the first entry

-- what an entry says of its chunk
abbrev pub said : RecipeEntry → ℕ × ℕ
said e = (e.start, e.length)

pub first_with-none : (i : ℕ) (es : List RecipeEntry) (m : List ℕ) → first_from i es m ≡ None → first_with es m ≡ None
first_with-none i [] m = λ is. refl
first_with-none i (e ∷ es) m =
    elim (bytes_eq m e.mark.0) as (λ t. cond t (Some i) (first_from (i + 1) es m) ≡ None → cond t (Some (said e)) (first_with es m) ≡ None) [
      | true ↦ λ is. absurd (cc)
      | false ↦ first_with-none (i + 1) es m
    ]

pub first_with-some : (i j : ℕ) (es : List RecipeEntry) (m : List ℕ) (d : RecipeEntry) → first_from i es m ≡ Some j → first_with es m ≡ Some (said (get_or es (j - i) d))
first_with-some i j [] m d = λ is. absurd (cc)
first_with-some i j (e ∷ es) m d =
    elim (bytes_eq m e.mark.0) as (λ t. cond t (Some i) (first_from (i + 1) es m) ≡ Some j → cond t (Some (said e)) (first_with es m) ≡ Some (said (get_or (e ∷ es) (j - i) d))) [
      | true ↦ λ is.
          let same : i ≡ j = cc in
          let here : 0 ≡ j - i = omega arith in
          ap (λ k. Some (said (get_or (e ∷ es) k d))) here
      | false ↦ λ is.
          let at : (i + 1 ≤ j) × (j < i + 1 + length es) = subst (λ o. IfSome o (λ k. (i + 1 ≤ k) × (k < i + 1 + length es))) is (first_from-within (i + 1) es m) in
          let past : suc (j - (i + 1)) ≡ j - i = omega (arith, at) in
          first_with-some (i + 1) j es m d is ∙ ap (λ k. Some (said (get_or (e ∷ es) k d))) past
    ]

-- the entry at the first index
pub found : (es inside xs : List RecipeEntry) (m : List ℕ) (j : ℕ) (d : RecipeEntry) → Some j ≡ first_from 0 es m → xs ≡ inside → inside ≡ es → Some (said (get_or xs j d)) ≡ first_with es m
found es inside xs m j d is one two = ap (λ ys. Some (said (get_or ys j d))) (one ∙ two) ∙ ap (λ k. Some (said (get_or es k d))) here ∙ sym (first_with-some 0 j es m d (sym is)) where
  here : j ≡ j - 0
  here = omega arith

-- the start that the first entry with the mark has, or else `new`
pub start_in-find : (es : List RecipeEntry) (m : List ℕ) (new : ℕ) → start_in es m new ≡ unwrap_or (option_map (λ p. p.0) (first_with es m)) new
start_in-find [] m new = refl
start_in-find (e ∷ es) m new =
    elim (bytes_eq m e.mark.0) as (λ t. cond t e.start (start_in es m new) ≡ unwrap_or (option_map (λ p. p.0) (cond t (Some (said e)) (first_with es m))) new) [
      | true ↦ refl
      | false ↦ start_in-find es m new
    ]

-- ---- the next index

next_from-within : (i : ℕ) (es : List RecipeEntry) → IfSome (next_from i es) (λ j. (i < j) × (j < i + length es))
next_from-within i [] = tt
next_from-within i (e ∷ es) = if_some (first_from (i + 1) es e.mark.0) _ _ (first_from-within (i + 1) es e.mark.0) (λ j at. (omega (arith, at), omega (arith, at)))

pub next_after-within : (es : List RecipeEntry) (i : ℕ) → IfSome (next_after es i) (λ j. (i < j) × (j < length es))
next_after-within es i = if_some (next_after es i) _ _ (next_from-within i (drop i es)) (λ j at. (at.0, omega (arith, at, length-drop i es)))

-- what is noted of an entry, where `xs` are the notes
pub next_noted : (es seen : List RecipeEntry) (first : List (List ℕ × ℕ)) (next xs : List ℕ) (i v : ℕ) → IsIndexOf es first next → es ≡ seen → xs ≡ next → nat_lt i (length xs) ≡ true → v ≡ get_or xs i v →
    v ≡ unwrap_or (next_after seen i) 0
next_noted es seen first next xs i v index same notes test value =
    let inside : i < length xs = ltb-true i (length xs) test in
    value
    ∙ get_or_default xs i v 0 inside
    ∙ ap (λ ys. get_or ys i 0) notes
    ∙ index.nexts i (omega (arith, index.count, ap length notes))
    ∙ ap (λ ys. unwrap_or (next_after ys i) 0) same

pub next_none : (es : List RecipeEntry) (i v : ℕ) → v ≡ unwrap_or (next_after es i) 0 → v ≡ 0 → None ≡ next_after es i
next_none es i v is nought = by_cases (next_after es i) (next_after-within es i) (sym is ∙ nought) where
  by_cases : (o : Option ℕ) → IfSome o (λ j. (i < j) × (j < length es)) → unwrap_or o 0 ≡ 0 → None ≡ o
  by_cases None at none = refl
  by_cases (Some j) at none = absurd (omega (arith, at, none))

pub next_some : (es : List RecipeEntry) (i v : ℕ) → v ≡ unwrap_or (next_after es i) 0 → v ≢ 0 → Some v ≡ next_after es i
next_some es i v is past = by_cases (next_after es i) is where
  by_cases : (o : Option ℕ) → v ≡ unwrap_or o 0 → Some v ≡ o
  by_cases None none = absurd (past none)
  by_cases (Some j) same = ap (λ k. Some k) same

pub next_within : (es : List RecipeEntry) (i j : ℕ) → Some j ≡ next_after es i → (i < j) × (j < length es)
next_within es i j is = subst (λ o. IfSome o (λ k. (i < k) × (k < length es))) (sym is) (next_after-within es i)

-- ---- one entry more, in front of those that have been walked over

module _ (es : List RecipeEntry) (i n : ℕ) (is : n ≡ i + 1) (inside : i < length es) (d : RecipeEntry) where
  here : drop i es ≡ get_or es i d ∷ drop n es
  here = drop_more es i d inside ∙ ap (λ k. get_or es i d ∷ drop k es) (sym is)

  pub first_more : (m : List ℕ) → cond (bytes_eq (get_or es i d).mark.0 m) (Some i) (first_from n (drop n es) m) ≡ first_from i (drop i es) m
  first_more m =
      ap (λ b. cond b (Some i) (first_from n (drop n es) m)) (bytes_eq-sym (get_or es i d).mark.0 m)
      ∙ ap (λ k. cond (bytes_eq m (get_or es i d).mark.0) (Some i) (first_from k (drop n es) m)) is
      ∙ ap (λ xs. first_from i xs m) (sym here)

  pub next_here : next_after es i ≡ first_from n (drop n es) (get_or es i d).mark.0
  next_here = ap (next_from i) here ∙ ap (λ k. first_from k (drop n es) (get_or es i d).mark.0) (sym is)

  pub nexts_more : (next : List ℕ) (v : ℕ) → length next ≡ length es → v ≡ unwrap_or (first_from n (drop n es) (get_or es i d).mark.0) 0 →
      ((k : ℕ) → n ≤ k → k < length es → get_or next k 0 ≡ unwrap_or (next_after es k) 0) →
      (k : ℕ) → i ≤ k → k < length es → get_or (set next i v) k 0 ≡ unwrap_or (next_after es k) 0
  nexts_more next v count value nexts k low high =
      ⊎_elim (λ same. subst (λ j. get_or (set next i v) j 0 ≡ unwrap_or (next_after es j) 0) (sym same) (get_or-set_same next i v 0 (omega arith) ∙ value ∙ ap (λ o. unwrap_or o 0) (sym next_here)))
      (λ other. get_or-set_other next i k v 0 other ∙ nexts k (omega (arith, other)) high)
      (cases_eq k i)
