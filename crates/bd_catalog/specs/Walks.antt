-- The places that a restore reads, in the order of its walk.
use Rattle.std.specs.Prelude.{◌≡◌, ◌⊎◌, ℕ, ◌+◌, ◌-◌, ◌<◌, ◌≤◌, Bool, List, [], ◌∷◌, ◌++◌, length, take, flat_map, filter, min, IsPermutation, if◌then◌else◌}
use Rattle.bd_model.specs.Sizes.{Sizes}
use Rattle.bd_model.specs.declared.layout.Phase.{Phase}
use Rattle.bd_model.specs.declared.layout.Phase.TheVariants.{Waiting}
use Rattle.bd_model.specs.Chunks.{numbers}
use Rattle.bd_model.specs.History.{VersionHistory, version, newest, oldest, contains, distinct}
use Rattle.bd_model.specs.Layout.{closed_volume, open_category, row_chunks}
use Rattle.bd_model.specs.Room.{recipe_bytes}
use Rattle.bd_roll.specs.Catalogue.{Catalogue, recipe_extents, volume_extents, active_extents}
use Rattle.bd_model.specs.Extents.{places_at}

-- whether version v uses the chunk
abbrev pub is_used : VersionHistory → ℕ → List ℕ → Bool
is_used h v c = contains (version h v) c

-- the chunks of the closed volume j in rows with start at most v
abbrev pub front : VersionHistory → Phase → ℕ → ℕ → List (List ℕ)
front h phase v j = flat_map (row_chunks h phase j) (numbers (oldest h) (min v j))

-- the records of these chunks, the first of them at this place of the owner's bytes: of each the header, and the body
-- where it is used
abbrev pub record_reads : Sizes → List ℕ → (List ℕ → Bool) → ℕ → List (List ℕ) → List ℕ
record_reads s extents used at [] = []
record_reads s extents used at (c ∷ chunks) =
    places_at s extents at 36
    ++ (if used c then places_at s extents (at + 36) (length c) else [])
    ++ record_reads s extents used (at + 36 + length c) chunks

abbrev pub recipe_reads : Sizes → Catalogue → VersionHistory → ℕ → List ℕ
recipe_reads s c h v = places_at s (recipe_extents c v) 0 (recipe_bytes (version h v))

-- the recipe, then the fronts of the closed volumes from v on, then the open categories that begin at v or before
unfoldable pub restore_reads : Sizes → Catalogue → VersionHistory → ℕ → List ℕ
restore_reads s c h v =
    recipe_reads s c h v
    ++ flat_map (λ j. record_reads s (volume_extents c j) (is_used h v) 0 (front h c.phase v j)) (numbers v (newest h - 1))
    ++ flat_map (λ i. record_reads s (active_extents c i) (is_used h v) 0 (open_category h c.phase i)) (numbers (h.base + 1) v)

-- the chunks whose bodies are so read
abbrev pub bodies_read : VersionHistory → Phase → ℕ → List (List ℕ)
bodies_read h phase v =
    flat_map (λ j. filter (is_used h v) (front h phase v j)) (numbers v (newest h - 1))
    ++ flat_map (λ i. filter (is_used h v) (open_category h phase i)) (numbers (h.base + 1) v)

-- A restore reads the bodies of its version once each, and of each closed volume a front that it uses whole. A header
-- without its body is read only in an open category, where the store waits and v is the newest version.
pub record IsLean (h : VersionHistory) (phase : Phase) (v : ℕ) : Type 0 where
  pub bodies : IsPermutation (bodies_read h phase v) (distinct (version h v))
  pub fronts : (j : ℕ) → v ≤ j → j < newest h → front h phase v j ≡ take (length (front h phase v j)) (closed_volume h phase j)
  pub used : (j : ℕ) → v ≤ j → j < newest h → filter (is_used h v) (front h phase v j) ≡ front h phase v j
  pub headers : (i : ℕ) → h.base < i → i ≤ v → (filter (is_used h v) (open_category h phase i) ≡ open_category h phase i) ⊎ ((cursor : ℕ) × (phase ≡ Waiting cursor) × (v ≡ newest h))
