-- Entries by their marks, each found from the one before it.
use Rattle.std.proofs.Common.{◌≡◌, ◌≢◌, ℕ, ◌<◌, false, List, [], length, get_or, sym, ◌∙◌, subst, Some, None, IfSome, unwrap_or}
use Rattle.std.specs.Prelude.{Option, bytes_eq}
use Rattle.std.proofs.lemmas.List.{get_or-map}
use Rattle.std.proofs.lemmas.Slice.Eq.{bytes_eq-Decides}
use Rattle.std.proofs.lemmas.Bool.{false≢true}
use Rattle.bd_model.specs.declared.layout.RecipeEntry.{RecipeEntry}
use Rattle.bd_recipe.specs.Marked.{first_from, next_after}
use Rattle.bd_recipe.proofs.NextOccurrence.{first-marked, none-before_first, next-marked, none-between}
use Rattle.bd_restore.specs.Target.{mark_at}

abbrev pub no_entry : RecipeEntry
no_entry = record { mark = record { 0 = [] }; length = 0; start = 0 }

pub mark_here : (entries : List RecipeEntry) (i : ℕ) (d : RecipeEntry) → i < length entries → mark_at entries i ≡ (get_or entries i d).mark.0
mark_here entries i d lt = get_or-map (λ e. e.mark.0) entries i d [] lt

apart : (x y : List ℕ) → bytes_eq x y ≡ false → y ≢ x
apart x y differ same = false≢true (sym differ ∙ (bytes_eq-Decides x y).1 (sym same))

-- the index that was found, or the end
abbrev pub limit_of : List RecipeEntry → Option ℕ → ℕ
limit_of entries found = unwrap_or found (length entries)

-- the entry that was found has the mark
abbrev pub IsAt : List RecipeEntry → List ℕ → Option ℕ → Type 0
IsAt entries m found = IfSome found (λ index. (index < length entries) × (mark_at entries index ≡ m))

module _ (entries : List RecipeEntry) (m : List ℕ) where
  pub first_is : (j : ℕ) → j < length entries → Some j ≡ first_from 0 entries m → mark_at entries j ≡ m
  first_is j lt is = mark_here entries j no_entry lt ∙ sym ((bytes_eq-Decides m (get_or entries j no_entry).mark.0).0 (first-marked entries m j no_entry (sym is)))

  pub first_at : (found : Option ℕ) → IfSome found (λ index. index < length entries) → found ≡ first_from 0 entries m → IsAt entries m found
  first_at None within is = tt
  first_at (Some j) within is = (within, first_is j within is)

  pub none_first : (found : Option ℕ) → found ≡ first_from 0 entries m → (k : ℕ) → k < limit_of entries found → k < length entries → mark_at entries k ≢ m
  none_first found is k below lt same =
      apart m (get_or entries k no_entry).mark.0 (none-before_first entries m k no_entry (subst (λ o. k < limit_of entries o) is below)) (sym (mark_here entries k no_entry lt) ∙ same)

  module _ (i : ℕ) (inside : i < length entries) (here : mark_at entries i ≡ m) where
    own : (get_or entries i no_entry).mark.0 ≡ m
    own = sym (mark_here entries i no_entry inside) ∙ here

    next_is : (j : ℕ) → j < length entries → Some j ≡ next_after entries i → mark_at entries j ≡ m
    next_is j lt is =
        mark_here entries j no_entry lt
        ∙ sym ((bytes_eq-Decides (get_or entries i no_entry).mark.0 (get_or entries j no_entry).mark.0).0 (next-marked entries i inside no_entry j (sym is)))
        ∙ own

    pub next_at : (found : Option ℕ) → IfSome found (λ index. (i < index) × (index < length entries)) → found ≡ next_after entries i → IsAt entries m found
    next_at None within is = tt
    next_at (Some j) within is = (within.1, next_is j within.1 is)

    pub none_next : (found : Option ℕ) → found ≡ next_after entries i → (k : ℕ) → i < k → k < limit_of entries found → k < length entries → mark_at entries k ≢ m
    none_next found is k above below lt same =
        apart (get_or entries i no_entry).mark.0 (get_or entries k no_entry).mark.0
        (none-between entries i inside no_entry k above (subst (λ o. k < limit_of entries o) is below))
        (sym (mark_here entries k no_entry lt) ∙ same ∙ sym own)

    -- the next one lies farther on
    pub next_later : (found : Option ℕ) → IfSome found (λ index. (i < index) × (index < length entries)) → i < limit_of entries found
    next_later None within = inside
    next_later (Some j) within = within.0
