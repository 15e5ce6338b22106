-- The records of a standing open category, told apart by the newest recipe.
use Rattle.std.proofs.Common.{◌≡◌, ℕ, ◌+◌, ◌≤◌, Bool, true, false, cond, not, ◌||◌, List, [], ◌∷◌, ◌++◌, length, map, refl, ◌∙◌, ap, arith}
use Rattle.std.specs.Prelude.{filter}
use Rattle.std.specs.List.{list_any}
use Rattle.std.proofs.lemmas.List.Folds.{fold-map}
use Rattle.bd_model.specs.History.{contains}
use Rattle.bd_model.specs.Layout.{record_bytes}
use Rattle.bd_model.specs.Marks.{mark}
use Rattle.bd_model.specs.Recipe.{has_mark}
use Rattle.bd_model.specs.Records.{Stored, record_of, records_of, stored_in}
use Rattle.bd_model.specs.Sizes.{Sizes}
use Rattle.bd_model.specs.declared.layout.RecipeEntry.{RecipeEntry}
use Rattle.bd_model.proofs.ChunkListLemmas.{filter-within}
use Rattle.bd_category.specs.Laws.{written_records}
use Rattle.bd_roll.specs.Catalogue.{OpenEntry}
use Rattle.bd_catalog.specs.Rows.{open_row}
use Rattle.bd_volume.specs.Holding.{Group, HoldsRow}
use Rattle.bd_volume.proofs.MappedLists.{filter_mapped}
use Rattle.bd_volume.proofs.StoredChunks.{Bounded, stored_of, stored-records}
use Rattle.bd_volume.proofs.WalkRecords.{row_records}
use Rattle.bd_arrange.specs.Cuts.{archived_records, bytes_in, is_kept, kept_records, records_in}

-- written again they are the records of the chunks
pub written-stored : (cs : List (List ℕ)) → written_records (map stored_of cs) ≡ records_of cs
written-stored [] = refl
written-stored (c ∷ cs) = ap (λ bytes. record_of c ++ bytes) (written-stored cs)

pub bytes-stored : (cs : List (List ℕ)) → bytes_in (map stored_of cs) ≡ record_bytes cs
bytes-stored cs = fold-map (λ n (r : Stored). n + (36 + r.length)) stored_of 0 cs

-- where the recipe has the marks of these chunks that pass a test, and no other of theirs, it tells which pass
module _ (entries : List RecipeEntry) (p : List ℕ → Bool) (cs : List (List ℕ)) (agree : (c : List ℕ) → contains cs c ≡ true → has_mark entries (mark c) ≡ p c) where
  pub kept-told : kept_records entries (map stored_of cs) ≡ map stored_of (filter p cs)
  kept-told = filter_mapped stored_of (is_kept entries) cs ∙ ap (map stored_of) (filter-within (λ c. has_mark entries (mark c)) p cs agree)

  pub archived-told : archived_records entries (map stored_of cs) ≡ map stored_of (filter (λ c. not (p c)) cs)
  archived-told =
      filter_mapped stored_of (λ r. not (is_kept entries r)) cs
      ∙ ap (map stored_of) (filter-within (λ c. not (has_mark entries (mark c))) (λ c. not (p c)) cs (λ c has. ap not (agree c has)))

module _ (s : Sizes) (short : s.max ≤ 65536) (image : List ℕ) where
  -- the records of an open category are those of its chunks
  pub records-held : (a : OpenEntry) (g : Group) → HoldsRow s image (open_row a) g → Bounded s g.chunks → records_in s image a ≡ map stored_of g.chunks
  records-held a g holds bounded =
      row_records s image (open_row a)
      ∙ (λ i. stored_in (holds.row i).chunks (holds.bytes i))
      ∙ stored-records s short g.chunks bounded

-- what passes of a list, some of it does
pub some_pass : {X : Type 0} (p : X → Bool) (xs : List X) → 1 ≤ length (filter p xs) → list_any p xs ≡ true
some_pass p [] some = absurd (omega (arith, some))
some_pass p (x ∷ xs) some =
    elim (p x) as (λ t. 1 ≤ length (cond t (x ∷ filter p xs) (filter p xs)) → (t || list_any p xs) ≡ true) [
      | true ↦ λ _. refl
      | false ↦ λ rest. some_pass p xs rest
    ] some
