-- An image that stands for a state holds its layout.
use Rattle.std.proofs.Common.{◌≡◌, ℕ, zero, suc, ◌+◌, ◌-◌, ◌<◌, ◌≤◌, true, false, cond, List, [], ◌∷◌, ◌++◌, length, take, drop, drop-drop, get_or, map, refl, sym, ◌∙◌, ap, subst, arith, nat_lt, length-append}
use Rattle.std.specs.Prelude.{IsTrue}
use Rattle.std.specs.List.{flat_map, range_with_len}
use Rattle.std.proofs.lemmas.List.{take-take, drop-take, take_at, drop_at}
use Rattle.std.proofs.lemmas.Grind.{flat_map-append}
use Rattle.bd_model.specs.declared.damage.Owner.{Owner}
use Rattle.bd_model.specs.declared.damage.Owner.TheVariants.{Volume}
use Rattle.bd_model.specs.declared.layout.CategoryRow.{CategoryRow}
use Rattle.bd_model.specs.declared.layout.Phase.{Phase}
use Rattle.bd_model.specs.Chunks.{numbers}
use Rattle.bd_model.specs.Extents.{owner_bytes}
use Rattle.bd_model.specs.History.{VersionHistory, newest, oldest}
use Rattle.bd_model.specs.Layout.{closed_volume, open_category, record_bytes, row_chunks, row_of, rows}
use Rattle.bd_model.specs.Records.{record_of, records_of}
use Rattle.bd_model.specs.Sizes.{Sizes, sizes_of}
use Rattle.bd_model.specs.State.{history}
use Rattle.bd_model.proofs.LayoutLemmas.{closed_volume-rows}
use Rattle.bd_model.proofs.RecordLemmas.{length-records}
use Rattle.bd_model.proofs.RowLemmas.{rows_over, no_chunks}
use Rattle.bd_roll.specs.Catalogue.{Catalogue, OpenEntry, active_extents, oldest_in, volume_extents}
use Rattle.bd_catalog.specs.Rows.{open_row, rows_from, rows_in, volume_rows}
use Rattle.bd_roll.specs.Rules.{obeys}
use Rattle.bd_catalog.specs.Standing.{BeginWith, HasActives, HasNumbers, HasVolumes}
use Rattle.bd_catalog.proofs.StandingLemmas.{Shows, stands-shows}
use Rattle.bd_catalog.proofs.StandingFound.{opened-found}
use Rattle.bd_catalog.proofs.StandingLines.{get_or-map_range}
use Rattle.bd_volume.specs.Holding.{HoldsRows, LayoutsAreHeld, group_at, groups_over}
use Rattle.bd_volume.proofs.PieceLemmas.{AreOwned, opens_owned}

-- what begins with two parts begins with the first, and behind it with the second
first_part : (x y z : List ℕ) → take (length (x ++ y)) z ≡ x ++ y → take (length x) z ≡ x
first_part x y z is =
    sym (take-take (length x) (length (x ++ y)) z (omega (arith, length-append x y)))
    ∙ ap (take (length x)) is ∙ take_at x y (length x) refl

second_part : (x y z : List ℕ) → take (length (x ++ y)) z ≡ x ++ y → take (length y) (drop (length x) z) ≡ y
second_part x y z is =
    sym (drop-take (length x) (length y) z)
    ∙ ap (λ n. drop (length x) (take n z)) (sym (length-append x y))
    ∙ ap (drop (length x)) is ∙ drop_at x y (length x) refl

-- a list of entries whose rows have a first one
pub one_entry : (es : List OpenEntry) (row : CategoryRow) (rows : List CategoryRow) → map (λ (e : OpenEntry). e.row) es ≡ row ∷ rows → (Q : List OpenEntry → Type 0) →
    ((e : OpenEntry) (later : List OpenEntry) → e.row ≡ row → map (λ (x : OpenEntry). x.row) later ≡ rows → Q (e ∷ later)) → Q es
one_entry [] row rows is Q by = absurd (no_row is) where
  no_row : ◌≡◌ {A = List CategoryRow} [] (row ∷ rows) → ⊥
  no_row e = cc
one_entry (e ∷ later) row rows is Q by =
    let first : e.row ≡ row = cc in
    let others : map (λ (x : OpenEntry). x.row) later ≡ rows = cc in
    by e later first others

module _ (s : Sizes) (image : List ℕ) (f : ℕ → List (List ℕ)) where
  -- ---- rows of one owner, end to end

  module _ (who : Owner) (extents : List ℕ) where
    abbrev bytes : List ℕ
    bytes = owner_bytes s extents image

    abbrev Begins : List (List ℕ) → ℕ → Type 0
    Begins cs from = take (length (records_of cs)) (drop from bytes) ≡ records_of cs

    pub rows_held : (starts : List ℕ) (from : ℕ) → Begins (flat_map f starts) from → HoldsRows s image (rows_from who extents from (rows_over f starts)) (groups_over f starts)
    rows_held [] from begins = tt
    rows_held (a ∷ starts) from begins =
        let later = flat_map f starts in
        let rest = rows_over f starts in
        let groups = groups_over f starts in
        let parts : records_of (f a ++ later) ≡ records_of (f a) ++ records_of later = flat_map-append record_of (f a) later in
        let both : take (length (records_of (f a) ++ records_of later)) (drop from bytes) ≡ records_of (f a) ++ records_of later =
        subst (λ l. take (length l) (drop from bytes) ≡ l) parts begins in
        elim (nat_lt 0 (length (f a))) as (λ t. nat_lt 0 (length (f a)) ≡ t → HoldsRows s image (rows_from who extents from (cond t (row_of a (f a) ∷ rest) rest)) (cond t (group_at f a ∷ groups) groups)) [
          | true ↦ λ _. (
            record {
              row = refl;
              bytes = ap (λ n. take n (drop from bytes)) (sym (length-records (f a))) ∙ first_part (records_of (f a)) (records_of later) (drop from bytes) both;
            },
            rows_held starts (from + record_bytes (f a))
                (ap (take (length (records_of later))) (ap (λ n. drop n bytes) (next from) ∙ sym (drop-drop (length (records_of (f a))) from bytes)) ∙ second_part (records_of (f a)) (records_of later) (drop from bytes) both),
          )
          | false ↦ λ none. rows_held starts from (ap (λ cs. take (length (records_of (cs ++ later))) (drop from bytes)) (sym (no_chunks (f a) none)) ∙ begins ∙ ap (λ cs. records_of (cs ++ later)) (no_chunks (f a) none))
        ] refl
      where
        next : (at : ℕ) → at + record_bytes (f a) ≡ at + length (records_of (f a))
        next at = omega (arith, length-records (f a))

  -- ---- open categories

  module _ (c : Catalogue) where
    pub opens_held : (es : List OpenEntry) (a n : ℕ) → map (λ (e : OpenEntry). e.row) es ≡ rows_over f (range_with_len a n) → AreOwned c (map open_row es) →
        ((i : ℕ) → a ≤ i → i < a + n → BeginWith s (active_extents c i) (records_of (f i)) image) → HoldsRows s image (map open_row es) (groups_over f (range_with_len a n))
    opens_held [] a zero is owned begins = tt
    opens_held (e ∷ es) a zero is owned begins = absurd (no_entry is) where
      no_entry : ◌≡◌ {A = List CategoryRow} (e.row ∷ map (λ (x : OpenEntry). x.row) es) [] → ⊥
      no_entry same = cc
    opens_held es a (suc n) is owned begins =
        let rest = rows_over f (range_with_len (a + 1) n) in
        let groups = groups_over f (range_with_len (a + 1) n) in
        elim (nat_lt 0 (length (f a))) as (λ t. map (λ (e : OpenEntry). e.row) es ≡ cond t (row_of a (f a) ∷ rest) rest → HoldsRows s image (map open_row es) (cond t (group_at f a ∷ groups) groups)) [
          | false ↦ λ same. opens_held es (a + 1) n same owned (λ i from to. begins i (omega arith) (omega arith))
          | true ↦ λ same.
              one_entry es (row_of a (f a)) rest same (λ xs. AreOwned c (map open_row xs) → HoldsRows s image (map open_row xs) (group_at f a ∷ groups)) (λ e later row rows own. (
                record {
                  row = row;
                  bytes =
                      ap (λ n. take n (owner_bytes s e.extents image)) (ap (λ (r : CategoryRow). r.bytes) row ∙ sym (length-records (f a)))
                      ∙ ap (λ xs. take (length (records_of (f a))) (owner_bytes s xs image)) (sym own.0 ∙ ap (λ (r : CategoryRow). active_extents c r.start) row)
                      ∙ (begins a (omega arith) (omega arith)).front;
                },
                opens_held later (a + 1) n rows own.1 (λ i from to. begins i (omega arith) (omega arith)),
              )) owned
        ] is

-- ---- the layout of a state

module _ (s : Sizes) (h : VersionHistory) (phase : Phase) (c : Catalogue) (image : List ℕ) where
  -- the rows of a closed volume
  pub rows_stand : HasNumbers h c → HasVolumes s h phase c image → (j : ℕ) → oldest h ≤ j → j < newest h → rows_in c j ≡ rows h phase j
  rows_stand numbered volumes j low high =
      let index : j - oldest_in c ≡ j - oldest h = omega (arith, numbered.newest, numbered.retained) in
      let place : oldest h + (j - oldest h) ≡ j = omega arith in
      ap (λ k. get_or (map (λ e. e.rows) c.volumes) k []) index
      ∙ ap (λ xs. get_or xs (j - oldest h) []) volumes.rows
      ∙ get_or-map_range (rows h phase) (oldest h) (newest h - 1 + 1 - oldest h) (j - oldest h) [] (omega arith)
      ∙ ap (rows h phase) place

  pub volume_held : HasNumbers h c → HasVolumes s h phase c image → (j : ℕ) → oldest h ≤ j → j < newest h → HoldsRows s image (volume_rows c j) (groups_over (row_chunks h phase j) (numbers (oldest h) j))
  volume_held numbered volumes j low high =
      let f = row_chunks h phase j in
      let starts = numbers (oldest h) j in
      let all : closed_volume h phase j ≡ flat_map f starts = closed_volume-rows h phase j low in
      subst (λ rs. HoldsRows s image (rows_from (Volume j) (volume_extents c j) 0 rs) (groups_over f starts)) (sym (rows_stand numbered volumes j low high))
      (rows_held s image f (Volume j) (volume_extents c j) starts 0 (subst (λ cs. take (length (records_of cs)) (owner_bytes s (volume_extents c j) image) ≡ records_of cs) all (volumes.records j low high).front))

  pub actives_held : IsTrue (obeys s c) → HasActives s h phase c image → HoldsRows s image (map open_row c.actives) (groups_over (open_category h phase) (numbers (h.base + 1) (newest h)))
  actives_held rules actives =
      opens_held s image (open_category h phase) c c.actives (h.base + 1) (newest h + 1 - (h.base + 1)) actives.rows (opens_owned s c rules) (λ i from to. actives.records i (omega arith) (omega arith))

pub layout_held : LayoutsAreHeld
layout_held shape st phase held image found stands opens =
    let shows : Shows shape st phase held found image = stands-shows stands opens in
    let s = sizes_of shape in
    let h = history shape st in
    let c = found.catalogue in
    let rules : IsTrue (obeys s c) = subst (λ sizes. IsTrue (obeys sizes c)) shows.sizes (opened-found image found opens).obeys in
    record {
      volumes = volume_held s h phase c image shows.numbers shows.volumes;
      actives = actives_held s h phase c image rules shows.actives;
    }
