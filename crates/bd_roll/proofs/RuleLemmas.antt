-- What a catalogue that obeys the rules has, one fact a rule, and that each of its numbers fits its field.
use Rattle.std.proofs.Common.{◌≡◌, ℕ, ◌+◌, ◌-◌, ◌*◌, ◌^◌, ◌<◌, ◌≤◌, Bool, true, false, not, ◌&&◌, ◌||◌, ◌==◌, List, [], ◌∷◌, ◌++◌, length, map, refl, sym, ◌∙◌, arith, nat_le, nat_lt, nat_eq, length-append}
use Rattle.std.specs.List.{All, IsDistinct, AllByRecursion, flat_map, list_all, list_any}
use Rattle.std.proofs.lemmas.Bool.{leb-true, ltb-true, eqb-true, not-true}
use Rattle.std.proofs.lemmas.List.{length-map}
use Rattle.std.proofs.lemmas.List.Elements.{All-nil, All-cons}
use Rattle.std.proofs.lemmas.List.Folds.{list_all-append}
use Rattle.std.proofs.lemmas.Map.Steps.{length-le_from_distinct_below}
use Rattle.bd_model.proofs.ListLemmas.{left_and, right_and}
use Rattle.bd_model.specs.declared.shape.Shape.{Shape}
use Rattle.bd_model.specs.Limits.{IsShape}
use Rattle.bd_model.specs.Sizes.{Sizes, sizes_of}
use Rattle.bd_model.specs.declared.layout.Phase.{Phase}
use Rattle.bd_model.specs.declared.layout.Phase.TheVariants.{Settled, Waiting}
use Rattle.bd_model.specs.declared.layout.CategoryRow.{CategoryRow}
use Rattle.bd_model.specs.Room.{up}
use Rattle.bd_roll.specs.Catalogue.{Catalogue, VersionEntry, VolumeEntry, OpenEntry, oldest_in, retained_in, row_starts, bytes_of_rows, all_extents}
use Rattle.bd_roll.specs.Rules.{ascends, all_differ, fits_eight, numbers_hold, phase_holds, version_holds, starts_hold, actives_hold, row_holds, volume_holds, active_holds, extents_hold, obeys}
use Rattle.bd_roll.specs.Widths.{FitList, FitsFour, FitsRow, FitsVersion, FitsVolume, FitsOpen, FitsPhase, IsSpellable}

pub record Rules (s : Sizes) (c : Catalogue) : Type 0 where
  pub numbers : numbers_hold s c ≡ true
  pub phase : phase_holds c c.phase ≡ true
  pub versions : list_all (version_holds s) c.versions ≡ true
  pub starts : starts_hold (oldest_in c) (oldest_in c) c.volumes ≡ true
  pub open_starts : actives_hold c ≡ true
  pub volumes : list_all (volume_holds s) c.volumes ≡ true
  pub actives : list_all (active_holds s) c.actives ≡ true
  pub extents : extents_hold s c ≡ true

pub rules_of : (s : Sizes) (c : Catalogue) → obeys s c ≡ true → Rules s c
rules_of s c h =
    let p1 = numbers_hold s c in
    let p2 = p1 && phase_holds c c.phase in
    let p3 = p2 && list_all (version_holds s) c.versions in
    let p4 = p3 && starts_hold (oldest_in c) (oldest_in c) c.volumes in
    let p5 = p4 && actives_hold c in
    let p6 = p5 && list_all (volume_holds s) c.volumes in
    let p7 = p6 && list_all (active_holds s) c.actives in
    let h7 = left_and p7 (extents_hold s c) h in
    let h6 = left_and p6 (list_all (active_holds s) c.actives) h7 in
    let h5 = left_and p5 (list_all (volume_holds s) c.volumes) h6 in
    let h4 = left_and p4 (actives_hold c) h5 in
    let h3 = left_and p3 (starts_hold (oldest_in c) (oldest_in c) c.volumes) h4 in
    let h2 = left_and p2 (list_all (version_holds s) c.versions) h3 in
    record {
      numbers = left_and p1 (phase_holds c c.phase) h2;
      phase = right_and p1 (phase_holds c c.phase) h2;
      versions = right_and p2 (list_all (version_holds s) c.versions) h3;
      starts = right_and p3 (starts_hold (oldest_in c) (oldest_in c) c.volumes) h4;
      open_starts = right_and p4 (actives_hold c) h5;
      volumes = right_and p5 (list_all (volume_holds s) c.volumes) h6;
      actives = right_and p6 (list_all (active_holds s) c.actives) h7;
      extents = right_and p7 (extents_hold s c) h;
    }

waits_for_two : (c : Catalogue) (phase : Phase) → phase_holds c phase ≡ true → retained_in c ≤ 1 → phase ≡ Settled
waits_for_two c Settled holds few = refl
waits_for_two c (Waiting cursor) holds few =
    let two = nat_le 2 (retained_in c) in
    let low = nat_lt c.base cursor in
    let more : 2 ≤ retained_in c = leb-true 2 (retained_in c) (left_and two low (left_and (two && low) (nat_le cursor c.newest) holds)) in
    absurd (omega (arith, more, few))

-- with one version or none a catalogue is settled
pub settled_with_few : (s : Sizes) (c : Catalogue) → obeys s c ≡ true → retained_in c ≤ 1 → c.phase ≡ Settled
settled_with_few s c rules few = waits_for_two c c.phase (rules_of s c rules).phase few

-- the numbers as facts
pub record NumbersHold (s : Sizes) (c : Catalogue) : Type 0 where
  pub few : length c.versions ≤ s.retain
  pub base : c.base + length c.versions ≤ c.newest
  pub newest : c.newest < 2 ^ 32
  pub volumes : length c.volumes ≡ length c.versions - 1

pub numbers_of : (s : Sizes) (c : Catalogue) → numbers_hold s c ≡ true → NumbersHold s c
numbers_of s c h =
    let p1 = nat_le (length c.versions) s.retain in
    let q2 = nat_le (c.base + length c.versions) c.newest in
    let q3 = nat_lt 0 (length c.versions) || c.base == c.newest in
    let q4 = nat_lt c.newest (2 ^ 32) in
    let q5 = length c.volumes == length c.versions - 1 in
    let h4 = left_and (p1 && q2 && q3 && q4) q5 h in
    let h3 = left_and (p1 && q2 && q3) q4 h4 in
    let h2 = left_and (p1 && q2) q3 h3 in
    record {
      few = leb-true (length c.versions) s.retain (left_and p1 q2 h2);
      base = leb-true (c.base + length c.versions) c.newest (right_and p1 q2 h2);
      newest = ltb-true c.newest (2 ^ 32) (right_and (p1 && q2 && q3) q4 h4);
      volumes = eqb-true (length c.volumes) (length c.versions - 1) (right_and (p1 && q2 && q3 && q4) q5 h);
    }

-- a test of each element, as facts
pub All-from_list_all : {X : Type 0} (p : X → Bool) (P : X → Type 0) → ((x : X) → p x ≡ true → P x) → (xs : List X) → list_all p xs ≡ true → All P xs
All-from_list_all p P says [] h = All-nil P
All-from_list_all p P says (x ∷ xs) h =
    All-cons P x xs (says x (left_and (p x) (list_all p xs) h)) (All-from_list_all p P says xs (right_and (p x) (list_all p xs) h))

none_of : (p : ℕ → Bool) (ns : List ℕ) → list_any p ns ≡ false → AllByRecursion (λ n. p n ≡ false) ns
none_of p [] h = tt
none_of p (n ∷ ns) h =
    elim (p n) as (λ b. p n ≡ b → (b || list_any p ns) ≡ false → AllByRecursion (λ m. p m ≡ false) (n ∷ ns)) [
      | true ↦ λ e no. cc
      | false ↦ λ e no. (e, none_of p ns no)
    ] refl h

pub distinct_of : (ns : List ℕ) → all_differ ns ≡ true → IsDistinct nat_eq ns
unfolding IsDistinct
distinct_of [] h = tt
distinct_of (n ∷ ns) h = (
  none_of (nat_eq n) ns (not-true (list_any (nat_eq n) ns) (left_and (not (list_any (nat_eq n) ns)) (all_differ ns) h)),
  distinct_of ns (right_and (not (list_any (nat_eq n) ns)) (all_differ ns) h),
)

below_of : (top q : ℕ) (ns : List ℕ) → list_all (λ n. nat_lt n top) ns ≡ true → list_any (nat_eq q) ns ≡ true → q < top
below_of top q [] h any = cc
below_of top q (n ∷ ns) h any =
    elim (nat_eq q n) as (λ b. nat_eq q n ≡ b → (b || list_any (nat_eq q) ns) ≡ true → q < top) [
      | true ↦ λ e _. let same : q ≡ n = eqb-true q n e in let below : n < top = ltb-true n top (left_and (nat_lt n top) (list_all (λ m. nat_lt m top) ns) h) in omega arith
      | false ↦ λ e some. below_of top q ns (right_and (nat_lt n top) (list_all (λ m. nat_lt m top) ns) h) some
    ] refl any

-- numbers below `top` that all differ are at most as many
pub count_of : (top : ℕ) (ns : List ℕ) → list_all (λ n. nat_lt n top) ns ≡ true → all_differ ns ≡ true → length ns ≤ top
count_of top ns below differ = length-le_from_distinct_below ns top (distinct_of ns differ) (λ q any. below_of top q ns below any)

-- numbers that ascend are at most as many as there are from low to high
pub ascends_count : (low high : ℕ) (ns : List ℕ) → ascends low high ns ≡ true → length ns ≤ high + 1 - low
ascends_count low high [] h = omega arith
ascends_count low high (n ∷ ns) h =
    let bounds = left_and (nat_le low n && nat_le n high) (ascends (n + 1) high ns) h in
    let above : low ≤ n = leb-true low n (left_and (nat_le low n) (nat_le n high) bounds) in
    let below : n ≤ high = leb-true n high (right_and (nat_le low n) (nat_le n high) bounds) in
    omega (arith, ascends_count (n + 1) high ns (right_and (nat_le low n && nat_le n high) (ascends (n + 1) high ns) h))

-- a store may have this many versions, extents, bytes of an extent and bytes of a chunk, and an extent has a byte
pub record IsBounded (s : Sizes) : Type 0 where
  pub retain : s.retain ≤ 256
  pub extents : s.extents ≤ 65536
  pub extent : 1 ≤ s.extent
  pub extent_high : s.extent ≤ 16777216
  pub chunk : s.max ≤ 65536

pub bounded_in : (s : Sizes) → IsShape s.extent s.extents s.retain s.min s.bits s.max → IsBounded s
bounded_in s shaped = record { retain = shaped.retain_high; extents = shaped.extents_high; extent = omega (arith, shaped.extent_low); extent_high = shaped.extent_high; chunk = shaped.max_high }

pub bounded_of : (shape : Shape) → IsBounded (sizes_of shape)
bounded_of shape = bounded_in (sizes_of shape) shape.in_range

-- the lists of one owner after the other
pub record OwnFew (top : ℕ) (numbers : List ℕ) : Type 0 where
  pub below : list_all (λ n. nat_lt n top) numbers ≡ true
  pub few : length numbers ≤ top

few_parts : (top : ℕ) (ms ns : List ℕ) → OwnFew top (ms ++ ns) → OwnFew top ms × OwnFew top ns
few_parts top ms ns own =
    let test : ℕ → Bool = λ n. nat_lt n top in
    let all = sym (list_all-append test ms ns) ∙ own.below in
    let long = length-append ms ns in (
      record { below = left_and (list_all test ms) (list_all test ns) all; few = omega (arith, own.few, long) },
      record { below = right_and (list_all test ms) (list_all test ns) all; few = omega (arith, own.few, long) },
    )

fit_list : (top : ℕ) (numbers : List ℕ) → top ≤ 65536 → OwnFew top numbers → FitList FitsFour numbers
fit_list top numbers small own = record {
  count = omega (arith, own.few);
  each = All-from_list_all (λ n. nat_lt n top) FitsFour (λ n h. let below : n < top = ltb-true n top h in omega arith) numbers own.below;
}

fits_eight_of : (n : ℕ) → fits_eight n ≡ true → n < 2 ^ 64
fits_eight_of n h = ltb-true n (2 ^ 64) h

-- the extents of a recipe, of a volume and of an open category are as many as their bytes need
pub count_in_version : (s : Sizes) (e : VersionEntry) → version_holds s e ≡ true → length e.extents ≡ up s.extent (40 * e.chunks)
count_in_version s e h =
    let p3 = nat_le e.fresh e.chunks && nat_le e.chunks e.length && nat_le e.length (s.max * e.chunks) in
    let p4 = p3 && (length e.extents == up s.extent (40 * e.chunks)) in
    let p5 = p4 && fits_eight (s.max * e.chunks) in
    let p6 = p5 && fits_eight (40 * e.chunks) in
    eqb-true (length e.extents) (up s.extent (40 * e.chunks)) (right_and p3 (length e.extents == up s.extent (40 * e.chunks)) (left_and p4 (fits_eight (s.max * e.chunks)) (left_and p5 (fits_eight (40 * e.chunks)) (left_and p6 (fits_eight e.length) h))))

pub count_in_volume : (s : Sizes) (e : VolumeEntry) → volume_holds s e ≡ true → length e.extents ≡ up s.extent (bytes_of_rows e.rows)
count_in_volume s e h =
    let p1 = list_all (row_holds s) e.rows in
    let p2 = length e.extents == up s.extent (bytes_of_rows e.rows) in
    eqb-true (length e.extents) (up s.extent (bytes_of_rows e.rows)) (right_and p1 p2 (left_and (p1 && p2) (fits_eight (bytes_of_rows e.rows)) h))

pub count_in_category : (s : Sizes) (e : OpenEntry) → active_holds s e ≡ true → length e.extents ≡ up s.extent e.row.bytes
count_in_category s e h = eqb-true (length e.extents) (up s.extent e.row.bytes) (right_and (row_holds s e.row) (length e.extents == up s.extent e.row.bytes) h)

-- the starts of the open categories ascend
pub open_ascend : (c : Catalogue) → actives_hold c ≡ true → ascends (c.base + 1) c.newest (map (λ e. e.row.start) c.actives) ≡ true
open_ascend c h = left_and (ascends (c.base + 1) c.newest (map (λ e. e.row.start) c.actives)) (nat_lt 0 (length c.versions) || length c.actives == 0) h

module _ (s : Sizes) (bounded : IsBounded s) where
  -- the parts of one version's rule
  pub record VersionHolds (e : VersionEntry) : Type 0 where
    pub fresh : e.fresh ≤ e.chunks
    pub chunks : e.chunks ≤ e.length
    pub extents : length e.extents ≡ up s.extent (40 * e.chunks)
    pub fits : e.length < 2 ^ 64

  pub version_of : (e : VersionEntry) → version_holds s e ≡ true → VersionHolds e
  version_of e h =
      let p1 = nat_le e.fresh e.chunks in
      let p2 = p1 && nat_le e.chunks e.length in
      let p3 = p2 && nat_le e.length (s.max * e.chunks) in
      let p4 = p3 && (length e.extents == up s.extent (40 * e.chunks)) in
      let p5 = p4 && fits_eight (s.max * e.chunks) in
      let p6 = p5 && fits_eight (40 * e.chunks) in
      let h4 = left_and p4 (fits_eight (s.max * e.chunks)) (left_and p5 (fits_eight (40 * e.chunks)) (left_and p6 (fits_eight e.length) h)) in
      let h2 = left_and p2 (nat_le e.length (s.max * e.chunks)) (left_and p3 (length e.extents == up s.extent (40 * e.chunks)) h4) in
      record {
        fresh = leb-true e.fresh e.chunks (left_and p1 (nat_le e.chunks e.length) h2);
        chunks = leb-true e.chunks e.length (right_and p1 (nat_le e.chunks e.length) h2);
        extents = count_in_version s e h;
        fits = fits_eight_of e.length (right_and p6 (fits_eight e.length) h);
      }

  -- the parts of a row's rule
  pub record RowHolds (row : CategoryRow) : Type 0 where
    pub some : 1 ≤ row.chunks
    pub least : 37 * row.chunks ≤ row.bytes
    pub most : row.bytes ≤ (36 + s.max) * row.chunks
    pub fits : (36 + s.max) * row.chunks < 2 ^ 64

  pub row_of : (row : CategoryRow) → row_holds s row ≡ true → RowHolds row
  row_of row h =
      let p1 = nat_le 1 row.chunks in
      let p2 = p1 && nat_le (37 * row.chunks) row.bytes in
      let p3 = p2 && nat_le row.bytes ((36 + s.max) * row.chunks) in
      let h3 = left_and p3 (fits_eight ((36 + s.max) * row.chunks)) h in
      let h2 = left_and p2 (nat_le row.bytes ((36 + s.max) * row.chunks)) h3 in
      record {
        some = leb-true 1 row.chunks (left_and p1 (nat_le (37 * row.chunks) row.bytes) h2);
        least = leb-true (37 * row.chunks) row.bytes (right_and p1 (nat_le (37 * row.chunks) row.bytes) h2);
        most = leb-true row.bytes ((36 + s.max) * row.chunks) (right_and p2 (nat_le row.bytes ((36 + s.max) * row.chunks)) h3);
        fits = fits_eight_of ((36 + s.max) * row.chunks) (right_and p3 (fits_eight ((36 + s.max) * row.chunks)) h);
      }

  row_fits : (row : CategoryRow) → row.start < 2 ^ 32 → row_holds s row ≡ true → FitsRow row
  row_fits row start h =
      let holds = row_of row h in
      let bytes : row.bytes < 2 ^ 64 = omega (arith, holds.most, holds.fits) in
      record { start = start; chunks = omega (arith, holds.least); bytes = bytes }

  versions_fit : (es : List VersionEntry) → list_all (version_holds s) es ≡ true → OwnFew s.extents (flat_map (λ e. e.extents) es) → All FitsVersion es
  versions_fit [] h own = All-nil FitsVersion
  versions_fit (e ∷ es) h own =
      let holds = version_of e (left_and (version_holds s e) (list_all (version_holds s) es) h) in
      let rest = flat_map (λ (v : VersionEntry). v.extents) es in
      All-cons FitsVersion e es (record {
        length = holds.fits;
        chunks = omega (arith, holds.chunks, holds.fits);
        fresh = omega (arith, holds.fresh, holds.chunks, holds.fits);
        extents = fit_list s.extents e.extents bounded.extents (few_parts s.extents e.extents rest own).0;
      })
      (versions_fit es (right_and (version_holds s e) (list_all (version_holds s) es) h) (few_parts s.extents e.extents rest own).1)

  -- rows whose starts ascend from `low` to `high`
  rows_fit : (low high : ℕ) (rows : List CategoryRow) → high < 2 ^ 32 → ascends low high (row_starts rows) ≡ true → list_all (row_holds s) rows ≡ true → All FitsRow rows
  rows_fit low high [] small up_to h = All-nil FitsRow
  rows_fit low high (row ∷ rows) small up_to h =
      let n = row.start in
      let here = nat_le low n && nat_le n high in
      let below : n ≤ high = leb-true n high (right_and (nat_le low n) (nat_le n high) (left_and here (ascends (n + 1) high (row_starts rows)) up_to)) in
      All-cons FitsRow row rows
      (row_fits row (omega arith) (left_and (row_holds s row) (list_all (row_holds s) rows) h))
      (rows_fit (n + 1) high rows small (right_and here (ascends (n + 1) high (row_starts rows)) up_to) (right_and (row_holds s row) (list_all (row_holds s) rows) h))

  rows_of : (e : VolumeEntry) → volume_holds s e ≡ true → list_all (row_holds s) e.rows ≡ true
  rows_of e h =
      let p1 = list_all (row_holds s) e.rows in
      let p2 = p1 && (length e.extents == up s.extent (bytes_of_rows e.rows)) in
      left_and p1 (length e.extents == up s.extent (bytes_of_rows e.rows)) (left_and p2 (fits_eight (bytes_of_rows e.rows)) h)

  volumes_fit : (oldest j : ℕ) (es : List VolumeEntry) → (0 < length es → j + length es < 2 ^ 32) → starts_hold oldest j es ≡ true → list_all (volume_holds s) es ≡ true
      → OwnFew s.extents (flat_map (λ e. e.extents) es) → All FitsVolume es
  volumes_fit oldest j [] small starts h own = All-nil FitsVolume
  volumes_fit oldest j (e ∷ es) small starts h own =
      let up_to = left_and (ascends oldest j (row_starts e.rows)) (starts_hold oldest (j + 1) es) starts in
      let holds = left_and (volume_holds s e) (list_all (volume_holds s) es) h in
      let rest = flat_map (λ (v : VolumeEntry). v.extents) es in
      All-cons FitsVolume e es (record {
        rows = record {
          count = omega (arith, ascends_count oldest j (row_starts e.rows) up_to, length-map e.rows (λ (row : CategoryRow). row.start));
          each = rows_fit oldest j e.rows (omega arith) up_to (rows_of e holds);
        };
        extents = fit_list s.extents e.extents bounded.extents (few_parts s.extents e.extents rest own).0;
      })
      (volumes_fit oldest (j + 1) es (λ some. omega arith) (right_and (ascends oldest j (row_starts e.rows)) (starts_hold oldest (j + 1) es) starts)
      (right_and (volume_holds s e) (list_all (volume_holds s) es) h) (few_parts s.extents e.extents rest own).1)

  -- the parts of an open category's rule
  pub open_row_of : (e : OpenEntry) → active_holds s e ≡ true → row_holds s e.row ≡ true
  open_row_of e h = left_and (row_holds s e.row) (length e.extents == up s.extent e.row.bytes) h

  actives_fit : (low high : ℕ) (es : List OpenEntry) → high < 2 ^ 32 → ascends low high (map (λ e. e.row.start) es) ≡ true → list_all (active_holds s) es ≡ true
      → OwnFew s.extents (flat_map (λ e. e.extents) es) → All FitsOpen es
  actives_fit low high [] small up_to h own = All-nil FitsOpen
  actives_fit low high (e ∷ es) small up_to h own =
      let n = e.row.start in
      let here = nat_le low n && nat_le n high in
      let others = map (λ (o : OpenEntry). o.row.start) es in
      let below : n ≤ high = leb-true n high (right_and (nat_le low n) (nat_le n high) (left_and here (ascends (n + 1) high others) up_to)) in
      let rest = flat_map (λ (o : OpenEntry). o.extents) es in
      All-cons FitsOpen e es (record {
        row = row_fits e.row (omega arith) (open_row_of e (left_and (active_holds s e) (list_all (active_holds s) es) h));
        extents = fit_list s.extents e.extents bounded.extents (few_parts s.extents e.extents rest own).0;
      })
      (actives_fit (n + 1) high es small (right_and here (ascends (n + 1) high others) up_to) (right_and (active_holds s e) (list_all (active_holds s) es) h) (few_parts s.extents e.extents rest own).1)

  pub owned_of : (c : Catalogue) → extents_hold s c ≡ true → OwnFew s.extents (all_extents c)
  owned_of c h =
      let below = left_and (list_all (λ n. nat_lt n s.extents) (all_extents c)) (all_differ (all_extents c)) h in
      record {
        below = below;
        few = count_of s.extents (all_extents c) below (right_and (list_all (λ n. nat_lt n s.extents) (all_extents c)) (all_differ (all_extents c)) h);
      }

  phase_fits : (c : Catalogue) (phase : Phase) → c.newest < 2 ^ 32 → phase_holds c phase ≡ true → FitsPhase phase
  phase_fits c Settled small h = tt
  phase_fits c (Waiting cursor) small h =
      let below : cursor ≤ c.newest = leb-true cursor c.newest (right_and (nat_le 2 (length c.versions) && nat_lt c.base cursor) (nat_le cursor c.newest) h) in
      omega arith

  -- each number of a catalogue that obeys the rules fits its field
  pub spellable : (c : Catalogue) → obeys s c ≡ true → IsSpellable c
  spellable c h =
      let rules = rules_of s c h in
      let numbers = numbers_of s c rules.numbers in
      let own = owned_of c rules.extents in
      let versions = flat_map (λ (e : VersionEntry). e.extents) c.versions in
      let volumes = flat_map (λ (e : VolumeEntry). e.extents) c.volumes in
      let actives = flat_map (λ (e : OpenEntry). e.extents) c.actives in
      let (closed, opens) = few_parts s.extents (versions ++ volumes) actives own in
      let starts = open_ascend c rules.open_starts in
      record {
        base = omega (arith, numbers.base, numbers.newest);
        newest = numbers.newest;
        phase = phase_fits c c.phase numbers.newest rules.phase;
        versions = record { count = omega (arith, numbers.few, bounded.retain); each = versions_fit c.versions rules.versions (few_parts s.extents versions volumes closed).0 };
        volumes = volumes_fit (oldest_in c) (oldest_in c) c.volumes (λ some. omega (arith, numbers.base, numbers.newest, numbers.volumes)) rules.starts rules.volumes (few_parts s.extents versions volumes closed).1;
        volume_count = numbers.volumes;
        actives = record {
          count = omega (arith, numbers.newest, ascends_count (c.base + 1) c.newest (map (λ (e : OpenEntry). e.row.start) c.actives) starts, length-map c.actives (λ (e : OpenEntry). e.row.start));
          each = actives_fit (c.base + 1) c.newest c.actives numbers.newest starts rules.actives opens;
        };
      }
