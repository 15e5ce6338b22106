-- Entries that were written are read back.
use Rattle.std.proofs.Common.{◌≡◌, ℕ, List, [], ◌∷◌, ◌++◌, length, take, drop, refl, sym, ◌∙◌, ap, append_assoc}
use Rattle.std.specs.Prelude.{All}
use Rattle.std.proofs.lemmas.List.{take-append-drop, take_at, drop_at}
use Rattle.std.proofs.lemmas.List.Elements.{All-head, All-tail}
use Rattle.bd_model.specs.Records.{four, spelled_entry, spelled_recipe, entry_at, entries_in}
use Rattle.bd_model.specs.declared.layout.RecipeEntry.{RecipeEntry}
use Rattle.bd_model.proofs.RecordLemmas.{length-spelled_entry}
use Rattle.bd_recipe.specs.Laws.{FitsEntry}
use Rattle.bd_recipe.proofs.Entries.{entry_at-fields}

module _ (e : RecipeEntry) (rest : List ℕ) (fits : FitsEntry e) where
  abbrev bytes : List ℕ
  bytes = spelled_entry e ++ rest

  bytes-are : bytes ≡ e.mark.0 ++ (four e.length ++ (four e.start ++ rest))
  bytes-are = append_assoc (e.mark.0 ++ four e.length) (four e.start) rest ∙ append_assoc e.mark.0 (four e.length) (four e.start ++ rest)

  pub entry-read : entry_at bytes ≡ e
  entry-read =
      sym (entry_at-fields bytes e.mark.0 (four e.start ++ rest) rest e.length e.start fits.bytes fits.start
      (sym (ap (take 32) bytes-are ∙ take_at e.mark.0 (four e.length ++ (four e.start ++ rest)) 32 fits.mark))
      (ap (drop 32) bytes-are ∙ drop_at e.mark.0 (four e.length ++ (four e.start ++ rest)) 32 fits.mark)
      refl)

  behind_entry : drop 40 bytes ≡ rest
  behind_entry = drop_at (spelled_entry e) rest 40 (length-spelled_entry e fits.mark)

pub entries-read : (entries : List RecipeEntry) (rest : List ℕ) → All FitsEntry entries → entries_in (length entries) (spelled_recipe entries ++ rest) ≡ entries
entries-read [] rest fits = refl
entries-read (e ∷ es) rest fits =
    let fit = All-head FitsEntry e es fits in
    let behind = spelled_recipe es ++ rest in
    ap (entries_in (length (e ∷ es))) (append_assoc (spelled_entry e) (spelled_recipe es) rest)
    ∙ (λ i. entry-read e behind fit i ∷ entries_in (length es) (behind_entry e behind fit i))
    ∙ ap (λ xs. e ∷ xs) (entries-read es rest (All-tail FitsEntry e es fits))

-- bytes that begin with entries
pub entries-begin : (entries : List RecipeEntry) (owner : List ℕ) → All FitsEntry entries → take (length (spelled_recipe entries)) owner ≡ spelled_recipe entries → entries_in (length entries) owner ≡ entries
entries-begin entries owner fits begins =
    let n = length (spelled_recipe entries) in
    ap (entries_in (length entries)) (sym (take-append-drop n owner) ∙ ap (λ front. front ++ drop n owner) begins) ∙ entries-read entries (drop n owner) fits
