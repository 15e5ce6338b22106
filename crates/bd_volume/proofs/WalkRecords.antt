-- The records of a walk are those of the parts in which a version's content is looked for.
use Rattle.std.proofs.Common.{◌≡◌, ℕ, zero, suc, ◌+◌, ◌-◌, List, [], ◌∷◌, ◌++◌, take, drop, map, refl, sym, ◌∙◌, ap, arith, drop-drop}
use Rattle.std.specs.Prelude.{filter, nat_le}
use Rattle.std.specs.List.{flat_map}
use Rattle.std.proofs.lemmas.List.{map-append, drop-take}
use Rattle.bd_model.specs.Sizes.{Sizes}
use Rattle.bd_model.specs.Chunks.{numbers}
use Rattle.bd_model.specs.Extents.{owner_bytes}
use Rattle.bd_model.specs.Records.{stored_at, stored_in}
use Rattle.bd_model.specs.declared.damage.Owner.{Owner}
use Rattle.bd_model.specs.declared.damage.Owner.TheVariants.{Volume}
use Rattle.bd_model.specs.declared.layout.CategoryRow.{CategoryRow}
use Rattle.bd_roll.specs.Catalogue.{Catalogue, OpenEntry, volume_extents}
use Rattle.bd_catalog.specs.Rows.{RowPlace, Spot, open_row, records_at, row_bytes, row_spots, rows_from, rows_in, spots_from, spots_in, volume_rows, walk}
use Rattle.bd_catalog.specs.Sound.{Part, active_parts, part_records, parts_for, parts_of, records_for, volume_parts}
use Rattle.bd_volume.proofs.MappedLists.{filter_mapped, joined_same, map_joined}

pub spots_stored : (extents bytes : List ℕ) (n at : ℕ) → records_at (spots_from extents bytes n at) ≡ stored_in n (drop at bytes)
spots_stored extents bytes zero at = refl
spots_stored extents bytes (suc n) at =
    let r = stored_at (drop at bytes) in
    let place : at + (36 + r.length) ≡ at + 36 + r.length = omega arith in
    ap (λ l. r ∷ l) (spots_stored extents bytes n (at + 36 + r.length) ∙ ap (stored_in n) (ap (λ p. drop p bytes) (sym place) ∙ sym (drop-drop (36 + r.length) at bytes)))

module _ (s : Sizes) (image : List ℕ) where
  -- a row with its bytes
  abbrev pub part_at : RowPlace → Part
  part_at p = record { row = p.row; bytes = take p.row.bytes (drop p.from (owner_bytes s p.extents image)) }

  pub row_records : (p : RowPlace) → records_at (row_spots s image p) ≡ part_records (part_at p)
  row_records p = spots_stored p.extents (row_bytes s image p) p.row.chunks p.from ∙ ap (stored_in p.row.chunks) (drop-take p.from p.row.bytes (owner_bytes s p.extents image))

  pub records_both : (xs ys : List Spot) → records_at (xs ++ ys) ≡ records_at xs ++ records_at ys
  records_both xs ys = map-append (λ (x : Spot). x.stored) xs ys

  pub places_records : (places : List RowPlace) → records_at (spots_in s image places) ≡ flat_map part_records (map part_at places)
  places_records [] = refl
  places_records (p ∷ places) = records_both (row_spots s image p) (spots_in s image places) ∙ (λ i. row_records p i ++ places_records places i)

  pub parts_rows : (who : Owner) (extents : List ℕ) (from : ℕ) (rows : List CategoryRow) → map part_at (rows_from who extents from rows) ≡ parts_of rows (drop from (owner_bytes s extents image))
  parts_rows who extents from [] = refl
  parts_rows who extents from (row ∷ rows) =
      ap (λ l. record { row = row; bytes = take row.bytes (drop from (owner_bytes s extents image)) } ∷ l)
      (parts_rows who extents (from + row.bytes) rows ∙ ap (parts_of rows) (sym (drop-drop row.bytes from (owner_bytes s extents image))))

  module _ (c : Catalogue) where
    pub parts_volume : (j : ℕ) → map part_at (volume_rows c j) ≡ volume_parts s c image j
    parts_volume j = parts_rows (Volume j) (volume_extents c j) 0 (rows_in c j)

    abbrev pub all_rows : ℕ → List RowPlace
    all_rows v = flat_map (volume_rows c) (numbers v (c.newest - 1)) ++ map open_row c.actives

    pub parts_open : map part_at (map open_row c.actives) ≡ active_parts s c image
    parts_open = map_of c.actives where
      map_of : (es : List OpenEntry) → map part_at (map open_row es) ≡ map (λ e. record { row = e.row; bytes = take e.row.bytes (owner_bytes s e.extents image) }) es
      map_of [] = refl
      map_of (e ∷ es) = ap (λ l. record { row = e.row; bytes = take e.row.bytes (owner_bytes s e.extents image) } ∷ l) (map_of es)

    parts_all : (v : ℕ) → map part_at (all_rows v) ≡ flat_map (volume_parts s c image) (numbers v (c.newest - 1)) ++ active_parts s c image
    parts_all v =
        map-append part_at (flat_map (volume_rows c) (numbers v (c.newest - 1))) (map open_row c.actives)
        ∙ (λ i. map_joined part_at (volume_rows c) (numbers v (c.newest - 1)) i ++ parts_open i)
        ∙ ap (λ l. l ++ active_parts s c image) (joined_same (λ j. map part_at (volume_rows c j)) (volume_parts s c image) parts_volume (numbers v (c.newest - 1)))

    pub walk_parts : (v : ℕ) → map part_at (walk c v) ≡ parts_for s c image v
    walk_parts v =
        sym (filter_mapped part_at (λ (p : Part). nat_le p.row.start v) (all_rows v))
        ∙ ap (filter (λ (p : Part). nat_le p.row.start v)) (parts_all v)

    pub walk_records : (v : ℕ) → records_at (spots_in s image (walk c v)) ≡ records_for s c image v
    walk_records v = places_records (walk c v) ∙ ap (flat_map part_records) (walk_parts v)
