-- Rows that follow each other, owner by owner.
use Rattle.std.proofs.Common.{◌≡◌, ℕ, zero, suc, ◌+◌, ◌-◌, ◌<◌, ◌≤◌, true, List, [], ◌∷◌, ◌++◌, length, take, drop, get_or, map, refl, sym, ◌∙◌, ap, arith, None, Some}
use Rattle.std.specs.Prelude.{IsTrue, ◌&&◌, ◌==◌, ◌^◌, nat_le, slice_get}
use Rattle.std.specs.Option.{option_map}
use Rattle.std.specs.List.{flat_map, list_all, range_with_len}
use Rattle.std.proofs.lemmas.Bool.{ltb-true}
use Rattle.std.proofs.lemmas.List.{append-nil, take-append-drop, take_more}
use Rattle.std.proofs.lemmas.List.Elements.{filter-append}
use Rattle.std.proofs.lemmas.List.Sums.{sum_by-append, sum_by-cons}
use Rattle.std.proofs.lemmas.Grind.{flat_map-append}
use Rattle.std.proofs.lemmas.Option.{get_or_from_slice_get, slice_get-map}
use Rattle.bd_model.specs.declared.damage.Owner.{Owner}
use Rattle.bd_model.specs.declared.damage.Owner.TheVariants.{Volume}
use Rattle.bd_model.specs.declared.layout.CategoryRow.{CategoryRow}
use Rattle.bd_model.specs.Chunks.{numbers}
use Rattle.bd_model.specs.Room.{up}
use Rattle.bd_model.specs.Sizes.{Sizes}
use Rattle.bd_model.proofs.ListLemmas.{left_and, right_and, numbers-split, range_with_len-suc}
use Rattle.bd_roll.specs.Catalogue.{Catalogue, VolumeEntry, bytes_of_rows, oldest_in, volume_extents}
use Rattle.bd_catalog.specs.Rows.{RowPlace, begun_by, row_place, rows_from, rows_in, volume_rows}
use Rattle.bd_roll.specs.Rules.{fits_eight, obeys, row_holds, volume_holds}
use Rattle.bd_catalog.proofs.StandingFound.{numbers-each, obeys-each}
use Rattle.bd_volume.specs.Pieces.{closed_rows, rows_closed_from}

pub begun-append : (v : ℕ) (xs ys : List RowPlace) → begun_by v (xs ++ ys) ≡ begun_by v xs ++ begun_by v ys
begun-append v xs ys = filter-append (λ (p : RowPlace). nat_le p.row.start v) xs ys

pub rows-append : (who : Owner) (extents : List ℕ) (from : ℕ) (xs ys : List CategoryRow) → rows_from who extents from (xs ++ ys) ≡ rows_from who extents from xs ++ rows_from who extents (from + bytes_of_rows xs) ys
rows-append who extents from [] ys =
    let same : from ≡ from + bytes_of_rows [] = omega arith in
    ap (λ k. rows_from who extents k ys) same
rows-append who extents from (x ∷ xs) ys =
    let sums : from + x.bytes + bytes_of_rows xs ≡ from + bytes_of_rows (x ∷ xs) = omega (arith, sum_by-cons (λ (r : CategoryRow). r.bytes) x xs) in
    ap (λ l. row_place who extents from x ∷ l) (rows-append who extents (from + x.bytes) xs ys ∙ ap (λ k. rows_from who extents (from + x.bytes) xs ++ rows_from who extents k ys) sums)

pub length-rows_from : (who : Owner) (extents : List ℕ) (from : ℕ) (rows : List CategoryRow) → length (rows_from who extents from rows) ≡ length rows
length-rows_from who extents from [] = refl
length-rows_from who extents from (x ∷ xs) = ap suc (length-rows_from who extents (from + x.bytes) xs)

-- ---- a closed volume

-- its rows and extents are those of its number, and their bytes can be counted
pub record ClosedIs (c : Catalogue) (number : ℕ) (e : VolumeEntry) : Type 0 where
  pub extents : e.extents ≡ volume_extents c number
  pub rows : e.rows ≡ rows_in c number
  pub short : bytes_of_rows e.rows < 2 ^ 64

no_volume : (e : VolumeEntry) → None ≡ Some e → ⊥
no_volume e h = cc

holds_at : (s : Sizes) (es : List VolumeEntry) (i : ℕ) (e : VolumeEntry) → list_all (volume_holds s) es ≡ true → slice_get es i ≡ Some e → volume_holds s e ≡ true
holds_at s [] i e all is = absurd (no_volume e is)
holds_at s (x ∷ es) zero e all is =
    let same : x ≡ e = cc in
    ap (volume_holds s) (sym same) ∙ left_and (volume_holds s x) (list_all (volume_holds s) es) all
holds_at s (x ∷ es) (suc i) e all is = holds_at s es i e (right_and (volume_holds s x) (list_all (volume_holds s) es) all) is

at_map : {Y : Type 0} (f : VolumeEntry → Y) (es : List VolumeEntry) (i : ℕ) (e : VolumeEntry) (d : Y) → slice_get es i ≡ Some e → f e ≡ get_or (map f es) i d
at_map f es i e d is = sym (get_or_from_slice_get (map f es) i (f e) d (slice_get-map f es i ∙ ap (option_map f) is))

pub closed_is : (s : Sizes) (c : Catalogue) (number : ℕ) (e : VolumeEntry) → IsTrue (obeys s c) → slice_get c.volumes (number - oldest_in c) ≡ Some e → ClosedIs c number e
closed_is s c number e rules is =
    let i = number - oldest_in c in
    let holds = holds_at s c.volumes i e (obeys-each s c rules).volumes is in
    record {
      extents = at_map (λ x. x.extents) c.volumes i e [] is;
      rows = at_map (λ x. x.rows) c.volumes i e [] is;
      short = ltb-true (bytes_of_rows e.rows) (2 ^ 64) (right_and (list_all (row_holds s) e.rows && length e.extents == up s.extent (bytes_of_rows e.rows)) (fits_eight (bytes_of_rows e.rows)) holds);
    }

pub rows_of : {c : Catalogue} {number : ℕ} {e : VolumeEntry} → ClosedIs c number e → volume_rows c number ≡ rows_from (Volume number) e.extents 0 e.rows
rows_of {c} {number} {e} is = λ k. rows_from (Volume number) (sym is.extents k) 0 (sym is.rows k)

-- so many rows it has
pub length-closed : (c : Catalogue) (number : ℕ) (e : VolumeEntry) → closed_rows number e ≡ volume_rows c number → length (volume_rows c number) ≡ length e.rows
length-closed c number e is = ap (λ l. length l) (sym is) ∙ length-rows_from (Volume number) e.extents 0 e.rows

-- a retained version has a number
pub oldest_some : (s : Sizes) (c : Catalogue) → IsTrue (obeys s c) → 1 ≤ oldest_in c
oldest_some s c rules = omega (arith, (numbers-each s c (obeys-each s c rules).numbers).since)

-- ---- one row after the other

-- the row behind the first ones of an owner's
module _ (who : Owner) (extents : List ℕ) (rows : List CategoryRow) (i : ℕ) (none row : CategoryRow) (from : ℕ) (lt : i < length rows) (is : get_or rows i none ≡ row) (at : from ≡ bytes_of_rows (take i rows)) where
  taken : take (i + 1) rows ≡ take i rows ++ row ∷ []
  taken = take_more rows i none lt ∙ ap (λ r. take i rows ++ r ∷ []) is

  pub owner_next : rows_from who extents 0 (take (i + 1) rows) ≡ rows_from who extents 0 (take i rows) ++ row_place who extents from row ∷ []
  owner_next =
      let place : 0 + bytes_of_rows (take i rows) ≡ from = omega (arith, at) in
      ap (rows_from who extents 0) taken ∙ rows-append who extents 0 (take i rows) (row ∷ []) ∙ (λ k. rows_from who extents 0 (take i rows) ++ row_place who extents (place k) row ∷ [])

  pub owner_place : from + row.bytes ≡ bytes_of_rows (take (i + 1) rows)
  owner_place =
      let sums : bytes_of_rows (take i rows ++ row ∷ []) ≡ bytes_of_rows (take i rows) + (0 + row.bytes) = sum_by-append (λ (r : CategoryRow). r.bytes) (take i rows) (row ∷ []) in
      omega (arith, ap bytes_of_rows taken, sums, at)

  pub owner_within : from + row.bytes ≤ bytes_of_rows rows
  owner_within =
      let sums : bytes_of_rows (take (i + 1) rows ++ drop (i + 1) rows) ≡ bytes_of_rows (take (i + 1) rows) + bytes_of_rows (drop (i + 1) rows) = sum_by-append (λ (r : CategoryRow). r.bytes) (take (i + 1) rows) (drop (i + 1) rows) in
      let all : bytes_of_rows (take (i + 1) rows ++ drop (i + 1) rows) ≡ bytes_of_rows rows = ap bytes_of_rows (take-append-drop (i + 1) rows) in
      omega (arith, owner_place, sums, all)

-- the rows of the volumes from v on and below n, and those of the volume n
module _ (c : Catalogue) (v n : ℕ) (low : v ≤ n) where
  abbrev rows_below : List RowPlace
  rows_below = flat_map (volume_rows c) (range_with_len v (n - v))

  pub volumes_next : flat_map (volume_rows c) (range_with_len v (n + 1 - v)) ≡ rows_below ++ volume_rows c n
  volumes_next =
      let more : n + 1 - v ≡ suc (n - v) = omega arith in
      let last : v + (n - v) ≡ n = omega arith in
      ap (λ k. flat_map (volume_rows c) (range_with_len v k)) more
      ∙ ap (flat_map (volume_rows c)) (range_with_len-suc v (n - v) ∙ ap (λ k. range_with_len v (n - v) ++ k ∷ []) last)
      ∙ flat_map-append (volume_rows c) (range_with_len v (n - v)) (n ∷ [])
      ∙ ap (λ l. rows_below ++ l) (append-nil (volume_rows c n))

  -- and those behind it
  pub volumes_rest : n < c.newest → flat_map (volume_rows c) (numbers v (c.newest - 1)) ≡ (rows_below ++ volume_rows c n) ++ flat_map (volume_rows c) (numbers (n + 1) (c.newest - 1))
  volumes_rest high =
      ap (flat_map (volume_rows c)) (numbers-split v n (c.newest - 1) (omega arith) (omega arith))
      ∙ flat_map-append (volume_rows c) (numbers v n) (numbers (n + 1) (c.newest - 1))
      ∙ ap (λ l. l ++ flat_map (volume_rows c) (numbers (n + 1) (c.newest - 1))) volumes_next

-- the rows of all volumes from v on
pub all_rows : (s : Sizes) (c : Catalogue) (v n : ℕ) → IsTrue (obeys s c) → oldest_in c ≤ v → v ≤ n → n ≡ c.newest → flat_map (volume_rows c) (range_with_len v (n - v)) ≡ rows_closed_from c v
all_rows s c v n rules old low is =
    let size : n - v ≡ c.newest - 1 + 1 - v = omega (arith, oldest_some s c rules) in
    ap (λ k. flat_map (volume_rows c) (range_with_len v k)) size
