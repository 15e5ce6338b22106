-- The bytes of stretches are those of their records, written.
use Rattle.std.proofs.Common.{◌≡◌, ℕ, zero, suc, ◌+◌, ◌<◌, ◌≤◌, Bool, true, false, not, cond, ◌&&◌, List, [], ◌∷◌, ◌++◌, length, take, drop, get_or, nat_le, leb-true, refl, sym, ◌∙◌, ap, subst, arith, append_assoc, drop-drop, length-append, length-drop, length-take, take-add, take-append-drop, take-take, take_at, drop_at}
use Rattle.std.specs.Prelude.{All, filter}
use Rattle.std.specs.List.{list_all}
use Rattle.std.proofs.lemmas.Nat.{be_bytes_4}
use Rattle.std.proofs.lemmas.Grind.{flat_map-append}
use Rattle.std.proofs.lemmas.List.Elements.{All-cons, All-drop, All-filter, All-head, All-nil, All-tail, All-take, filter-append}
use Rattle.std.proofs.lemmas.List.Sums.{sum_by-cons}
use Rattle.bd_model.specs.Extents.{owner_bytes}
use Rattle.bd_model.specs.Records.{Stored, four, stored_at}
use Rattle.bd_model.specs.Sizes.{Sizes}
use Rattle.bd_model.specs.declared.layout.RecipeEntry.{RecipeEntry}
use Rattle.bd_model.proofs.ListLemmas.{left_and, right_and}
use Rattle.bd_category.specs.Laws.{written_records}
use Rattle.bd_category.specs.Records.{record_with}
use Rattle.bd_roll.specs.Catalogue.{OpenEntry}
use Rattle.bd_catalog.specs.Damages.{header_holds}
use Rattle.bd_catalog.specs.Rows.{RowPlace, open_row, records_at, row_bytes, row_end, row_spots, spots_from}
use Rattle.bd_catalog.specs.Sound.{length_holds}
use Rattle.bd_arrange.specs.Cuts.{AreStretches, IsWholeCategory, archived_records, bytes_in, is_kept, kept_records, records_in}
use Rattle.bd_arrange.specs.Moving.{bytes_if, goes, picked}
use Rattle.bd_arrange.specs.declared.cut.Stretch.{Stretch}

-- a record, and its bytes once it is written
abbrev pub written : Stored → List ℕ
written r = record_with (record { 0 = r.mark }) r.body

-- which are as many as it says
abbrev pub IsSized : Stored → Type 0
IsSized r = length (written r) ≡ 36 + r.length

-- ---- one record

module _ (bytes : List ℕ) (are : All (λ b. b < 256) bytes) where
  abbrev r : Stored
  r = stored_at bytes

  module _ (fits : 36 + r.length ≤ length bytes) where
    body_long : length r.body ≡ r.length
    body_long = omega (arith, length-take r.length (drop 36 bytes), length-drop 36 bytes, fits)

    first_four : four (length r.body) ≡ take 4 bytes
    first_four = be_bytes_4 (take 4 bytes) (length r.body) (omega (arith, length-take 4 bytes, fits)) small body_long
      where
        small : (i : ℕ) → get_or (take 4 bytes) i 0 < 256
        small i = below (take 4 bytes) (All-take (λ b. b < 256) 4 bytes are) i
          where
            below : (xs : List ℕ) → All (λ b. b < 256) xs → (i : ℕ) → get_or xs i 0 < 256
            below [] all i = omega arith
            below (x ∷ xs) all zero = All-head (λ b. b < 256) x xs all
            below (x ∷ xs) all (suc i) = below xs (All-tail (λ b. b < 256) x xs all) i

    pub one-written : written r ≡ take (36 + r.length) bytes
    one-written =
        let header : take 36 bytes ≡ take 4 bytes ++ take 32 (drop 4 bytes) = take-add 4 32 bytes in
        (λ i. (first_four i ++ take 32 (drop 4 bytes)) ++ r.body)
        ∙ ap (λ l. l ++ r.body) (sym header)
        ∙ sym (take-add 36 r.length bytes)

    pub one-sized : IsSized r
    one-sized = ap length one-written ∙ omega (arith, length-take (36 + r.length) bytes, fits)

-- ---- records end to end

module _ (s : Sizes) (p : RowPlace) (extents bytes : List ℕ) (are : All (λ b. b < 256) bytes) (long : row_end p ≤ length bytes) where
  abbrev spots : ℕ → ℕ → List Stored
  spots n at = records_at (spots_from extents bytes n at)

  inside : (at : ℕ) (x : Stored) (ok : Bool) → (ok && nat_le (at + 36 + x.length) (row_end p)) ≡ true → at + 36 + x.length ≤ row_end p
  inside at x ok is = leb-true (at + 36 + x.length) (row_end p) (right_and ok (nat_le (at + 36 + x.length) (row_end p)) is)

  fits_first : (at : ℕ) → (length_holds s (stored_at (drop at bytes)).length && nat_le (at + 36 + (stored_at (drop at bytes)).length) (row_end p)) ≡ true → 36 + (stored_at (drop at bytes)).length ≤ length (drop at bytes)
  fits_first at is =
      let r : Stored = stored_at (drop at bytes) in
      omega (arith, inside at r (length_holds s r.length) is, length-drop at bytes, long)

  pub spots-written : (n at : ℕ) → list_all (header_holds s p) (spots_from extents bytes n at) ≡ true → written_records (spots n at) ≡ take (bytes_in (spots n at)) (drop at bytes)
  spots-written zero at all = refl
  spots-written (suc n) at all =
      let x = drop at bytes in
      let r : Stored = stored_at x in
      let rest = spots n (at + 36 + r.length) in
      let here = left_and (length_holds s r.length && nat_le (at + 36 + r.length) (row_end p)) (list_all (header_holds s p) (spots_from extents bytes n (at + 36 + r.length))) all in
      let later = right_and (length_holds s r.length && nat_le (at + 36 + r.length) (row_end p)) (list_all (header_holds s p) (spots_from extents bytes n (at + 36 + r.length))) all in
      let size : bytes_in (r ∷ rest) ≡ 36 + r.length + bytes_in rest = sum_by-cons (λ (y : Stored). 36 + y.length) r rest in
      let place : at + 36 + r.length ≡ at + (36 + r.length) = omega arith in
      (λ i. one-written x (All-drop (λ b. b < 256) at bytes are) (fits_first at here) i ++ spots-written n (at + 36 + r.length) later i)
      ∙ ap (λ l. take (36 + r.length) x ++ take (bytes_in rest) l) (ap (λ m. drop m bytes) place ∙ sym (drop-drop (36 + r.length) at bytes))
      ∙ sym (take-add (36 + r.length) (bytes_in rest) x)
      ∙ ap (λ m. take m x) (sym size)

  pub spots-sized : (n at : ℕ) → list_all (header_holds s p) (spots_from extents bytes n at) ≡ true → All IsSized (spots n at)
  spots-sized zero at all = All-nil IsSized
  spots-sized (suc n) at all =
      let x = drop at bytes in
      let r : Stored = stored_at x in
      let here = left_and (length_holds s r.length && nat_le (at + 36 + r.length) (row_end p)) (list_all (header_holds s p) (spots_from extents bytes n (at + 36 + r.length))) all in
      let later = right_and (length_holds s r.length && nat_le (at + 36 + r.length) (row_end p)) (list_all (header_holds s p) (spots_from extents bytes n (at + 36 + r.length))) all in
      All-cons IsSized r (spots n (at + 36 + r.length)) (one-sized x (All-drop (λ b. b < 256) at bytes are) (fits_first at here)) (spots-sized n (at + 36 + r.length) later)

-- as many bytes as they say
pub length-written : (rs : List Stored) → All IsSized rs → length (written_records rs) ≡ bytes_in rs
length-written [] all = refl
length-written (r ∷ rs) all =
    omega (arith, length-append (written r) (written_records rs), All-head IsSized r rs all, length-written rs (All-tail IsSized r rs all), sum_by-cons (λ (y : Stored). 36 + y.length) r rs)

-- ---- those that go one way

module _ (p : Stored → Bool) where
  filter_all : (rs : List Stored) (t : Bool) → All (λ r. p r ≡ t) rs → written_records (filter p rs) ≡ bytes_if t (written_records rs)
  filter_all [] true all = refl
  filter_all [] false all = refl
  filter_all (r ∷ rs) true all =
      let P = λ (x : Stored). p x ≡ true in
      ap (λ t. written_records (cond t (r ∷ filter p rs) (filter p rs))) (All-head P r rs all) ∙ ap (λ l. written r ++ l) (filter_all rs true (All-tail P r rs all))
  filter_all (r ∷ rs) false all =
      let P = λ (x : Stored). p x ≡ false in
      ap (λ t. written_records (cond t (r ∷ filter p rs) (filter p rs))) (All-head P r rs all) ∙ filter_all rs false (All-tail P r rs all)

  module _ (entries : List RecipeEntry) (way : Bool) (link : (x : Stretch) (r : Stored) → is_kept entries r ≡ x.kept → p r ≡ goes way x) where
    pub picked-written : (xs : List Stretch) (rs : List Stored) (rest : List ℕ) → AreStretches entries xs rs → All IsSized rs → picked way xs (written_records rs ++ rest) ≡ written_records (filter p rs)
    picked-written [] rs rest none sized = sym (ap (λ l. written_records (filter p l)) none)
    picked-written (x ∷ xs) rs rest are sized =
        let first = take x.chunks rs in
        let behind = drop x.chunks rs in
        let whole : first ++ behind ≡ rs = take-append-drop x.chunks rs in
        let bytes : written_records first ++ (written_records behind ++ rest) ≡ written_records rs ++ rest =
        sym (append_assoc (written_records first) (written_records behind) rest) ∙ ap (λ l. l ++ rest) (sym (flat_map-append written first behind) ∙ ap written_records whole) in
        let long : length (written_records first) ≡ x.bytes = length-written first (All-take IsSized x.chunks rs sized) ∙ are.0.bytes in
        let alike : All (λ r. p r ≡ goes way x) first = λ k d lt. link x (get_or first k d) (are.0.alike k d lt) in
        ap (λ l. bytes_if (goes way x) (take x.bytes l) ++ picked way xs (drop x.bytes l)) (sym bytes)
        ∙ (λ i. bytes_if (goes way x) (take_at (written_records first) (written_records behind ++ rest) x.bytes long i) ++ picked way xs (drop_at (written_records first) (written_records behind ++ rest) x.bytes long i))
        ∙ (λ i. sym (filter_all first (goes way x) alike) i ++ picked-written xs behind rest are.1 (All-drop IsSized x.chunks rs sized) i)
        ∙ sym (flat_map-append written (filter p first) (filter p behind))
        ∙ ap written_records (sym (filter-append p first behind) ∙ ap (filter p) whole)

-- ---- an open category

module _ (s : Sizes) (image : List ℕ) (entries : List RecipeEntry) (a : OpenEntry) (xs : List Stretch) (whole : IsWholeCategory s image a) (are : AreStretches entries xs (records_in s image a))
    (enough : a.row.bytes ≤ length (owner_bytes s a.extents image)) (bytes : All (λ b. b < 256) (take a.row.bytes (owner_bytes s a.extents image))) where
  abbrev owner : List ℕ
  owner = owner_bytes s a.extents image

  abbrev records : List Stored
  records = records_in s image a

  row : RowPlace
  row = open_row a

  good : list_all (header_holds s (open_row a)) (row_spots s image (open_row a)) ≡ true
  good = left_and (list_all (header_holds s (open_row a)) (row_spots s image (open_row a))) true whole.headers.each

  ends : 0 + a.row.bytes ≡ a.row.bytes
  ends = omega arith

  own_bytes : All (λ b. b < 256) (row_bytes s image (open_row a))
  own_bytes = subst (λ n. All (λ b. b < 256) (take n owner)) (sym ends) bytes

  own_long : row_end (open_row a) ≤ length (row_bytes s image (open_row a))
  own_long = omega (arith, length-take (0 + a.row.bytes) owner, enough)

  pub records_sized : All IsSized records
  records_sized = spots-sized s (open_row a) a.extents (row_bytes s image (open_row a)) own_bytes own_long a.row.chunks 0 good

  owner-is : owner ≡ written_records records ++ drop (bytes_in records) owner
  owner-is =
      let read : written_records records ≡ take (bytes_in records) (take (0 + a.row.bytes) owner) = spots-written s (open_row a) a.extents (row_bytes s image (open_row a)) own_bytes own_long a.row.chunks 0 good in
      sym (take-append-drop (bytes_in records) owner)
      ∙ ap (λ l. l ++ drop (bytes_in records) owner) (sym (read ∙ take-take (bytes_in records) (0 + a.row.bytes) owner (omega (arith, whole.fills))))

  pub kept-written : picked true xs owner ≡ written_records (kept_records entries records)
  kept-written =
      ap (picked true xs) owner-is
      ∙ picked-written (is_kept entries) entries true (λ x r is. is) xs records (drop (bytes_in records) owner) are records_sized

  pub archived-written : picked false xs owner ≡ written_records (archived_records entries records)
  archived-written =
      ap (picked false xs) owner-is
      ∙ picked-written (λ r. not (is_kept entries r)) entries false (λ x r is. ap not is) xs records (drop (bytes_in records) owner) are records_sized

  pub length-kept : length (written_records (kept_records entries records)) ≡ bytes_in (kept_records entries records)
  length-kept = length-written (kept_records entries records) (All-filter (is_kept entries) IsSized records records_sized)
