-- What is read of records where entries tell which chunks are used.
use Rattle.std.proofs.Common.{◌≡◌, ℕ, ◌+◌, Bool, cond, List, [], ◌∷◌, ◌++◌, refl}
use Rattle.bd_model.specs.Extents.{places_at}
use Rattle.bd_model.specs.Records.{Stored}
use Rattle.bd_model.specs.Sizes.{Sizes}
use Rattle.bd_model.specs.declared.layout.RecipeEntry.{RecipeEntry}
use Rattle.bd_catalog.specs.Rows.{Spot, records_at}
use Rattle.bd_volume.proofs.HeldRows.{spot_reads}
use Rattle.bd_restore.specs.Walk.{is_wanted, walk_reads}

-- the body of each record is wanted where its chunk is used, and those before it were seen
abbrev pub AreTold : List RecipeEntry → (List ℕ → Bool) → List Stored → List Stored → Type 0
AreTold entries used seen [] = Unit {0}
AreTold entries used seen (r ∷ rs) = (is_wanted entries seen r.mark ≡ used r.body) × AreTold entries used (seen ++ r ∷ []) rs

pub told-reads : (s : Sizes) (entries : List RecipeEntry) (used : List ℕ → Bool) (seen : List Stored) (spots : List Spot) → AreTold entries used seen (records_at spots) → walk_reads s entries seen spots ≡ spot_reads s used spots
told-reads s entries used seen [] told = refl
told-reads s entries used seen (x ∷ xs) told =
    let header = places_at s x.extents x.at 36 in
    let body = places_at s x.extents (x.at + 36) x.stored.length in
    λ i. (header ++ cond (told.0 i) body []) ++ told-reads s entries used (seen ++ x.stored ∷ []) xs told.1 i
