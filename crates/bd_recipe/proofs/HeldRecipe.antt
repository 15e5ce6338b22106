-- A recipe is found exactly where it holds, and what is found else is a damage of its version.
use Rattle.std.proofs.Common.{◌≡◌, ℕ, ◌+◌, Bool, true, false, cond, ◌&&◌, List, [], ◌∷◌, refl, sym, ◌∙◌, ap, subst, Option, Some, None}
use Rattle.std.specs.Prelude.{IsTrue, Ok, Err, ◌==◌}
use Rattle.std.specs.List.{list_all}
use Rattle.bd_model.specs.Sizes.{Sizes}
use Rattle.bd_model.specs.declared.damage.Damage.{Damage}
use Rattle.bd_model.specs.declared.damage.Damage.TheVariants.{Entry, Sum}
use Rattle.bd_model.specs.declared.layout.RecipeEntry.{RecipeEntry}
use Rattle.bd_roll.specs.Catalogue.{Catalogue}
use Rattle.bd_catalog.specs.Damages.{IsOfVersion}
use Rattle.bd_catalog.specs.Sound.{recipe_of, recipe_holds, entry_holds}
use Rattle.bd_recipe.specs.Entries.{first_bad}
use Rattle.bd_recipe.specs.Reading.{length_in, recipe_found, total, with_sum}
use Rattle.bd_recipe.proofs.Entries.{first_bad-is}

-- where none fails all hold
pub all_from_none : (holds : RecipeEntry → Bool) (v index : ℕ) (xs : List RecipeEntry) → first_bad holds v index xs ≡ None → list_all holds xs ≡ true
all_from_none holds v index [] none = refl
all_from_none holds v index (x ∷ xs) none =
    elim (holds x) as (λ b. cond b (first_bad holds v (index + 1) xs) (Some (Entry v index x.length x.start)) ≡ None → (b && list_all holds xs) ≡ true) [
      | true ↦ λ e. all_from_none holds v (index + 1) xs e
      | false ↦ λ e. absurd (no_entry e)
    ] none
  where
    no_entry : {damage : Damage} → Some damage ≡ None → ⊥
    no_entry e = cc

module _ (s : Sizes) (c : Catalogue) (v : ℕ) (image : List ℕ) where
  abbrev entries : List RecipeEntry
  entries = recipe_of s c image v

  -- what an answer says of the test of all entries and of the sum
  pub record Holds (items : List RecipeEntry) : Type 0 where
    pub same : items ≡ entries
    pub holds : IsTrue (recipe_holds s c image v)

  pub holds-found : (items : List RecipeEntry) → recipe_found s c image v ≡ Ok items → Holds items
  holds-found items = by_bad (first_bad (entry_holds s c v) v 0 entries) refl where
    no_ok : (damage : Damage) → Err damage ≡ Ok items → ⊥
    no_ok damage e = cc

    by_sum : (b : Bool) → (total entries == length_in c v) ≡ b → list_all (entry_holds s c v) entries ≡ true → cond b (Ok entries) (Err (Sum v (length_in c v) (total entries))) ≡ Ok items → Holds items
    by_sum true e all is = record { same = cc; holds = ap (λ b. b && (total entries == length_in c v)) all ∙ e }
    by_sum false e all is = absurd (no_ok (Sum v (length_in c v) (total entries)) is)

    by_bad : (bad : Option Damage) → first_bad (entry_holds s c v) v 0 entries ≡ bad → with_sum v (length_in c v) entries bad ≡ Ok items → Holds items
    by_bad None e is = by_sum (total entries == length_in c v) refl (all_from_none (entry_holds s c v) v 0 entries e) is
    by_bad (Some damage) e is = absurd (no_ok damage is)

  -- the damage that is found is one of version v
  pub found-of_version : (damage : Damage) → recipe_found s c image v ≡ Err damage → IsOfVersion v damage
  found-of_version damage = by_bad (first_bad (entry_holds s c v) v 0 entries) refl where
    no_err : Ok entries ≡ Err damage → ⊥
    no_err e = cc

    by_sum : (b : Bool) → cond b (Ok entries) (Err (Sum v (length_in c v) (total entries))) ≡ Err damage → IsOfVersion v damage
    by_sum true is = absurd (no_err is)
    by_sum false is =
        let same : Sum v (length_in c v) (total entries) ≡ damage = cc in
        subst (IsOfVersion v) same refl

    by_bad : (bad : Option Damage) → first_bad (entry_holds s c v) v 0 entries ≡ bad → with_sum v (length_in c v) entries bad ≡ Err damage → IsOfVersion v damage
    by_bad None e is = by_sum (total entries == length_in c v) is
    by_bad (Some found) e is =
        let bad = first_bad-is (entry_holds s c v) v 0 entries found e in
        let same : found ≡ damage = cc in
        subst (IsOfVersion v) (sym bad.so ∙ same) refl
