-- What is known of a chunk once its mark came.
use Rattle.std.proofs.Common.{◌≡◌, ℕ, ◌-◌, Bool, true, false, cond, not, ◌&&◌, ◌||◌, List, [], length-set, set, get_or, get_or-set_same, get_or-set_other, refl, sym, ◌∙◌, ap, arith, unwrap_or, Some, None, option_map, ⊎_elim}
use Rattle.std.proofs.lemmas.Bool.{cases_eq}
use Rattle.std.specs.Str.{bytes_eq}
use Rattle.bd_model.specs.Laws.{start_in}
use Rattle.bd_model.specs.declared.layout.RecipeEntry.{RecipeEntry}
use Rattle.bd_model.proofs.ChunkListLemmas.{bytes_eq-refl, bytes_eq-same}
use Rattle.bd_model.proofs.ListLemmas.{same_some}
use Rattle.bd_recipe.specs.Marked.{first_from}
use Rattle.bd_recipe.proofs.EntriesByMark.{first_with-none, first_with-some, index_within, start_in-find}
use Rattle.bd_recipe.proofs.NextOccurrence.{first-marked}
use Rattle.bd_intake.specs.Seen.{AreUsed}

-- ---- where the chunk starts

pub start-known : (es : List RecipeEntry) (m : List ℕ) (j new : ℕ) (d : RecipeEntry) → first_from 0 es m ≡ Some j → start_in es m new ≡ (get_or es j d).start
start-known es m j new d at =
    let here : j - 0 ≡ j = omega arith in
    start_in-find es m new ∙ ap (λ o. unwrap_or (option_map (λ p. p.0) o) new) (first_with-some 0 j es m d at) ∙ ap (λ k. (get_or es k d).start) here

pub start-unknown : (es : List RecipeEntry) (m : List ℕ) (new : ℕ) → first_from 0 es m ≡ None → start_in es m new ≡ new
start-unknown es m new none = start_in-find es m new ∙ ap (λ o. unwrap_or (option_map (λ p. p.0) o) new) (first_with-none 0 es m none)

-- ---- the flags

-- two marks with one first index are the same
one_mark : (es : List RecipeEntry) (m x : List ℕ) (j : ℕ) → first_from 0 es m ≡ Some j → first_from 0 es x ≡ Some j → x ≡ m
one_mark es m x j at at_x =
    let d : RecipeEntry = record { mark = record { 0 = [] }; length = 0; start = 0 } in
    bytes_eq-same x (get_or es j d).mark.0 (first-marked es x j d at_x) ∙ sym (bytes_eq-same m (get_or es j d).mark.0 (first-marked es m j d at))

module _ (old : List RecipeEntry) (came : List ℕ → Bool) (used : List Bool) (are : AreUsed old came used) (m : List ℕ) where
  abbrev now : List ℕ → Bool
  now x = came x || bytes_eq x m

  -- a mark that isn't this one
  other : (x : List ℕ) → bytes_eq x m ≡ false → came x ≡ now x
  other x differs = sym (ap (λ b. came x || b) differs ∙ or-false (came x))
    where
      or-false : (b : Bool) → (b || false) ≡ b
      or-false true = refl
      or-false false = refl

  this : (x : List ℕ) → bytes_eq x m ≡ true → now x ≡ true
  this x same = ap (λ b. came x || b) same ∙ or-true (came x)
    where
      or-true : (b : Bool) → (b || true) ≡ true
      or-true true = refl
      or-true false = refl

  pub flag_set : (j : ℕ) → first_from 0 old m ≡ Some j → AreUsed old now (set used j true)
  flag_set j at = record {
    count = length-set used j true ∙ are.count;
    firsts = λ x k at_x.
        ⊎_elim
        (λ same.
        let is : x ≡ m = one_mark old m x j at (at_x ∙ ap Some same) in
        ap (λ i. get_or (set used j true) i false) same
        ∙ get_or-set_same used j true false (omega (arith, index_within old m j (sym at), are.count))
        ∙ sym (this x (ap (λ y. bytes_eq y m) is ∙ bytes_eq-refl m)))
        (λ differ.
        get_or-set_other used j k true false differ ∙ are.firsts x k at_x
        ∙ elim (bytes_eq x m) as (λ b. bytes_eq x m ≡ b → came x ≡ now x) [
          | true ↦ λ is. absurd (differ (same_some (sym at_x ∙ ap (first_from 0 old) (bytes_eq-same x m is) ∙ at)))
          | false ↦ λ is. other x is
        ] refl)
        (cases_eq k j);
  }

-- ---- the marks of those that the version before lacks

pub known_more : (old_keys new_keys same known : Bool) → new_keys ≡ cond same true old_keys → (same ≡ true → known ≡ false) → new_keys ≡ (old_keys || (same && not known))
known_more true new true known is lacks = is
known_more true new false known is lacks = is
known_more false new true known is lacks = is ∙ sym (ap not (lacks refl))
known_more false new false known is lacks = is
