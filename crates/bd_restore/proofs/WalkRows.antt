-- The rows of a walk are the catalogue's own, and an open category is found by its start.
use Rattle.std.proofs.Common.{◌≡◌, ℕ, zero, suc, ◌+◌, ◌-◌, ◌*◌, ◌<◌, ◌≤◌, ◌&&◌, ◌||◌, Bool, true, List, [], ◌∷◌, ◌++◌, length, map, get_or, nat_lt, sym, ◌∙◌, ap, subst, arith, inl, inr}
use Rattle.std.specs.Prelude.{All, Contains, IsTrue, ◌==◌, nat_le}
use Rattle.std.specs.List.{flat_map, list_all, range_with_len}
use Rattle.std.proofs.lemmas.Bool.{cases_order, eqb-true, leb-true}
use Rattle.std.proofs.lemmas.List.{get_or-map, get_or_default, length-map}
use Rattle.std.proofs.lemmas.List.Elements.{All-append, All-cons, All-filter, All-same, Contains-get_or}
use Rattle.std.proofs.lemmas.List.Sums.{sum_by-cons}
use Rattle.std.proofs.lemmas.Option.{slice_get-get_or}
use Rattle.bd_model.specs.Chunks.{numbers}
use Rattle.bd_model.specs.Room.{up}
use Rattle.bd_model.specs.Sizes.{Sizes}
use Rattle.bd_model.specs.declared.damage.Owner.{Owner}
use Rattle.bd_model.specs.declared.damage.Owner.TheVariants.{Volume}
use Rattle.bd_model.specs.declared.layout.CategoryRow.{CategoryRow}
use Rattle.bd_model.proofs.ListLemmas.{left_and, right_and}
use Rattle.bd_model.proofs.RoomLemmas.{up-enough}
use Rattle.bd_extio.specs.Ranges.{AreExtents}
use Rattle.bd_roll.specs.Catalogue.{Catalogue, OpenEntry, VolumeEntry, bytes_of_rows, oldest_in}
use Rattle.bd_catalog.specs.Rows.{RowPlace, open_row, row_place, rows_from, volume_rows, walk}
use Rattle.bd_roll.specs.Rules.{active_holds, ascends, fits_eight, obeys, row_holds, volume_holds}
use Rattle.bd_catalog.proofs.StandingFound.{numbers-each, obeys-each}
use Rattle.bd_recipe.proofs.Versions.{are_all, are_left, are_right}
use Rattle.bd_volume.specs.Pieces.{extents_of}
use Rattle.bd_volume.proofs.PieceLemmas.{AreOwned}
use Rattle.bd_volume.proofs.RowLists.{closed_is, oldest_some, rows_of}
use Rattle.bd_restore.specs.Owners.{starts_in, AreRising, IsOwner, IsRowOf}

-- ---- open categories by their starts

above : (low high : ℕ) (ns : List ℕ) → ascends low high ns ≡ true → (k : ℕ) → k < length ns → low ≤ get_or ns k 0
above low high [] up k lt = absurd (omega arith)
above low high (n ∷ ns) up zero lt = leb-true low n (left_and (nat_le low n) (nat_le n high) (left_and (nat_le low n && nat_le n high) (ascends (n + 1) high ns) up))
above low high (n ∷ ns) up (suc k) lt =
    let here : low ≤ n = leb-true low n (left_and (nat_le low n) (nat_le n high) (left_and (nat_le low n && nat_le n high) (ascends (n + 1) high ns) up)) in
    omega (arith, here, above (n + 1) high ns (right_and (nat_le low n && nat_le n high) (ascends (n + 1) high ns) up) k (omega arith))

each_above : (low high : ℕ) (ns : List ℕ) → ascends low high ns ≡ true → (i j : ℕ) → i < j → j < length ns → get_or ns i 0 < get_or ns j 0
each_above low high [] up i j lt inside = absurd (omega arith)
each_above low high (n ∷ ns) up i zero lt inside = absurd (omega arith)
each_above low high (n ∷ ns) up zero (suc j) lt inside = omega (arith, above (n + 1) high ns (right_and (nat_le low n && nat_le n high) (ascends (n + 1) high ns) up) j (omega arith))
each_above low high (n ∷ ns) up (suc i) (suc j) lt inside = each_above (n + 1) high ns (right_and (nat_le low n && nat_le n high) (ascends (n + 1) high ns) up) i j (omega arith) (omega arith)

pub starts_rise : (s : Sizes) (c : Catalogue) → IsTrue (obeys s c) → AreRising (starts_in c.actives)
starts_rise s c rules = record {
  each = each_above (c.base + 1) c.newest (starts_in c.actives) (left_and (ascends (c.base + 1) c.newest (starts_in c.actives)) (nat_lt 0 (length c.versions) || length c.actives == 0) (obeys-each s c rules).actives);
}

-- the first of rising numbers that isn't below one of them is that one
pub found_there : (ns : List ℕ) (n k : ℕ) → AreRising ns → Contains ns n → ((i : ℕ) → i < k → get_or ns i 0 < n) → ((i : ℕ) → k ≤ i → i < length ns → n ≤ get_or ns i 0) → (k < length ns) × (get_or ns k 0 ≡ n)
found_there ns n k rising there before behind =
    let j = there.0 in
    let here : get_or ns j 0 ≡ n = sym (get_or_default ns j n 0 there.1) ∙ there.2 in
    elim (cases_order k j) [
      | inl same ↦ (omega (arith, same, there.1), ap (λ i. get_or ns i 0) same ∙ here)
      | inr rest ↦ elim rest [
        | inl earlier ↦ let no : ⊥ = omega (arith, here, rising.each k j earlier there.1, behind k (omega arith) (omega (arith, earlier, there.1))) in absurd no
        | inr later ↦ let no : ⊥ = omega (arith, here, before j later) in absurd no
      ]
    ]

-- each row has its owner's extents
pub owned_at : (c : Catalogue) (ps : List RowPlace) (k : ℕ) (d : RowPlace) → AreOwned c ps → k < length ps → extents_of c (get_or ps k d).who ≡ (get_or ps k d).extents
owned_at c [] k d owned lt = absurd (omega arith)
owned_at c (p ∷ ps) zero d owned lt = owned.0
owned_at c (p ∷ ps) (suc k) d owned lt = owned_at c ps k d owned.1 (omega arith)

-- ---- what holds of the elements of a list

passing_at : {X : Type 0} (test : X → Bool) (xs : List X) (k : ℕ) (d : X) → k < length xs → list_all test xs ≡ true → test (get_or xs k d) ≡ true
passing_at test [] k d lt all = absurd (omega arith)
passing_at test (x ∷ xs) zero d lt all = left_and (test x) (list_all test xs) all
passing_at test (x ∷ xs) (suc k) d lt all = passing_at test xs k d (omega arith) (right_and (test x) (list_all test xs) all)

extents_at : {X : Type 0} (f : X → List ℕ) (s : Sizes) (xs : List X) (k : ℕ) (d : X) → k < length xs → AreExtents s (flat_map f xs) → AreExtents s (f (get_or xs k d))
extents_at f s [] k d lt are = absurd (omega arith)
extents_at f s (x ∷ xs) zero d lt are = are_left s (f x) (flat_map f xs) are
extents_at f s (x ∷ xs) (suc k) d lt are = extents_at f s xs k d (omega arith) (are_right s (f x) (flat_map f xs) are)

-- ---- rows of the catalogue

row_some : (s : Sizes) (row : CategoryRow) → row_holds s row ≡ true → 1 ≤ row.bytes
row_some s row holds =
    let few = nat_le 1 row.chunks in
    let low = nat_le (37 * row.chunks) row.bytes in
    let high = nat_le row.bytes ((36 + s.max) * row.chunks) in
    let both : (few && low) ≡ true = left_and (few && low) high (left_and (few && low && high) (fits_eight ((36 + s.max) * row.chunks)) holds) in
    omega (arith, leb-true 1 row.chunks (left_and few low both), leb-true (37 * row.chunks) row.bytes (right_and few low both))

module _ (s : Sizes) (c : Catalogue) (some : 1 ≤ s.extent) (rules : IsTrue (obeys s c)) where
  abbrev Own : RowPlace → Type 0
  Own p = IsRowOf s c p

  owner_rows : (who : Owner) (extents : List ℕ) (from : ℕ) (rows : List CategoryRow) → IsOwner c who → AreExtents s extents → list_all (row_holds s) rows ≡ true → from + bytes_of_rows rows ≤ length extents * s.extent →
      All Own (rows_from who extents from rows)
  owner_rows who extents from [] owner are hold room = λ k d lt. absurd (omega arith)
  owner_rows who extents from (row ∷ rows) owner are hold room =
      let sum : bytes_of_rows (row ∷ rows) ≡ row.bytes + bytes_of_rows rows = sum_by-cons (λ (r : CategoryRow). r.bytes) row rows in
      All-cons Own (row_place who extents from row) (rows_from who extents (from + row.bytes) rows)
      (record { inside = record { numbers = are; room = omega (arith, room, sum) }; some = row_some s row (left_and (row_holds s row) (list_all (row_holds s) rows) hold); owner = owner })
      (owner_rows who extents (from + row.bytes) rows owner are (right_and (row_holds s row) (list_all (row_holds s) rows) hold) (omega (arith, room, sum)))

  abbrev versions : List ℕ
  versions = flat_map (λ e. e.extents) c.versions

  abbrev volumes : List ℕ
  volumes = flat_map (λ e. e.extents) c.volumes

  abbrev opens : List ℕ
  opens = flat_map (λ e. e.extents) c.actives

  are : AreExtents s (versions ++ volumes ++ opens)
  are = are_all s c (obeys-each s c rules).extents

  of_volume : (j : ℕ) → oldest_in c ≤ j → j < c.newest → All Own (volume_rows c j)
  of_volume j low high =
      let each = obeys-each s c rules in
      let none : VolumeEntry = record { rows = []; extents = [] } in
      let i = j - oldest_in c in
      let counts = numbers-each s c each.numbers in
      let lt : i < length c.volumes = omega (arith, low, high, counts.volumes) in
      let e = get_or c.volumes i none in
      let is = closed_is s c j e rules (slice_get-get_or c.volumes i none lt) in
      let rows = list_all (row_holds s) e.rows in
      let sized = length e.extents == up s.extent (bytes_of_rows e.rows) in
      let holds : (rows && sized) ≡ true = left_and (rows && sized) (fits_eight (bytes_of_rows e.rows)) (passing_at (volume_holds s) c.volumes i none lt each.volumes) in
      All-same Own (volume_rows c j) (rows_from (Volume j) e.extents 0 e.rows) (rows_of is)
      (owner_rows (Volume j) e.extents 0 e.rows (low, high)
      (extents_at (λ (x : VolumeEntry). x.extents) s c.volumes i none lt (are_right s versions volumes (are_left s (versions ++ volumes) opens are)))
      (left_and rows sized holds)
      (omega (arith, up-enough s.extent (bytes_of_rows e.rows) (length e.extents) some (eqb-true (length e.extents) (up s.extent (bytes_of_rows e.rows)) (right_and rows sized holds)))))

  of_volumes : (a n : ℕ) → oldest_in c ≤ a → a + n ≤ c.newest → All Own (flat_map (volume_rows c) (range_with_len a n))
  of_volumes a zero low high = λ k d lt. absurd (omega arith)
  of_volumes a (suc n) low high =
      All-append Own (volume_rows c a) (flat_map (volume_rows c) (range_with_len (a + 1) n))
      (of_volume a low (omega arith)) (of_volumes (a + 1) n (omega arith) (omega arith))

  of_categories : All Own (map open_row c.actives)
  of_categories = λ k d lt.
      let none : OpenEntry = record { row = record { start = 0; chunks = 0; bytes = 0 }; extents = [] } in
      let inside : k < length c.actives = omega (arith, lt, length-map c.actives open_row) in
      let e = get_or c.actives k none in
      let holds = passing_at (active_holds s) c.actives k none inside (obeys-each s c rules).categories in
      let room : e.row.bytes ≤ length e.extents * s.extent =
      up-enough s.extent e.row.bytes (length e.extents) some (eqb-true (length e.extents) (up s.extent e.row.bytes) (right_and (row_holds s e.row) (length e.extents == up s.extent e.row.bytes) holds)) in
      let start : get_or (starts_in c.actives) k 0 ≡ e.row.start = get_or-map (λ (x : OpenEntry). x.row.start) c.actives k none 0 inside in
      let counted : k < length (starts_in c.actives) = omega (arith, inside, length-map c.actives (λ (x : OpenEntry). x.row.start)) in
      let mine : Own (open_row e) = record {
        inside = record { numbers = extents_at (λ (x : OpenEntry). x.extents) s c.actives k none inside (are_right s (versions ++ volumes) opens are); room = omega (arith, room) };
        some = row_some s e.row (left_and (row_holds s e.row) (length e.extents == up s.extent e.row.bytes) holds);
        owner = subst (Contains (starts_in c.actives)) start (Contains-get_or (starts_in c.actives) k 0 counted);
      } in
      subst Own (sym (get_or-map open_row c.actives k none d inside)) mine

  -- each row that a restore of a retained version walks over
  pub walk_rows : (v : ℕ) → oldest_in c ≤ v → v ≤ c.newest → All Own (walk c v)
  walk_rows v low high =
      let before = flat_map (volume_rows c) (numbers v (c.newest - 1)) in
      All-filter (λ (p : RowPlace). nat_le p.row.start v) Own (before ++ map open_row c.actives)
      (All-append Own before (map open_row c.actives) (of_volumes v (c.newest - 1 + 1 - v) low (omega (arith, oldest_some s c rules, low, high))) of_categories)
