-- A catalogue obeys its rules after its oldest versions are given up.
use Rattle.std.proofs.Common.{◌≡◌, ⊎_elim, ℕ, zero, suc, ◌+◌, ◌-◌, ◌*◌, ◌^◌, ◌<◌, ◌≤◌, Bool, true, false, cond, ◌&&◌, ◌||◌, ◌==◌, List, [], ◌∷◌, ◌++◌, length, map, drop, max, sum_by, flat_map, nat_eq, nat_le, nat_lt, eq-eqb, lt-ltb, refl, sym, ◌∙◌, ap, arith, subst, length-append, ◌⊎◌, inl, inr}
use Rattle.std.specs.Prelude.{All, Contains, IsPermutation}
use Rattle.std.specs.List.{list_all}
use Rattle.std.proofs.Math.Nat.{mul-le-mul_right}
use Rattle.std.proofs.lemmas.Bool.{cases_lt, eqb-true, le-leb, leb-true, leb-false, lt-leb}
use Rattle.std.proofs.lemmas.List.{append-nil, length-drop, length-map}
use Rattle.std.proofs.lemmas.List.Elements.{All-contains, Contains-append_left}
use Rattle.std.proofs.lemmas.List.Sums.{sum_by-cons}
use Rattle.std.proofs.lemmas.List.Sorted.{Contains-permutation, IsPermutation-sym}
use Rattle.std.proofs.lemmas.Map.Keys.{IsDistinct-IsPermutation}
use Rattle.bd_model.specs.Laws.{both_rows, rows_to, taking_in}
use Rattle.bd_model.specs.Room.{up}
use Rattle.bd_model.specs.Sizes.{Sizes}
use Rattle.bd_model.specs.declared.layout.CategoryRow.{CategoryRow}
use Rattle.bd_model.specs.declared.layout.Phase.{Phase}
use Rattle.bd_model.specs.declared.layout.Phase.TheVariants.{Settled, Waiting}
use Rattle.bd_model.proofs.ListLemmas.{left_and, right_and}
use Rattle.bd_model.proofs.RoomLemmas.{up-enough}
use Rattle.bd_space.proofs.Distinct.{distinct_left}
use Rattle.bd_roll.specs.Catalogue.{Catalogue, VersionEntry, VolumeEntry, OpenEntry, all_extents, bytes_of_rows, emptied_catalogue, oldest_in, retained_in, row_starts}
use Rattle.bd_roll.specs.Rules.{actives_hold, all_differ, ascends, extents_hold, fits_eight, numbers_hold, obeys, phase_holds, row_holds, starts_hold, version_holds, volume_holds}
use Rattle.bd_roll.specs.Splitting.{FitsDrop, after_drop, begun_from, dropped_by, fewer_in}
use Rattle.bd_roll.proofs.RulesAfterBackup.{all_differ-once, flips}
use Rattle.bd_roll.proofs.InPlace.{first, later}
use Rattle.bd_roll.proofs.RuleLemmas.{All-from_list_all, IsBounded, NumbersHold, RowHolds, Rules, numbers_of, distinct_of, owned_of, row_of, rules_of}
use Rattle.bd_roll.proofs.OwnedByStep.{own-drop}

-- ---- rules, put together

pub obeys_by_rules : (s : Sizes) (c : Catalogue) → Rules s c → obeys s c ≡ true
obeys_by_rules s c r = λ k. r.numbers k && r.phase k && r.versions k && r.starts k && r.open_starts k && r.volumes k && r.actives k && r.extents k

module _ (s : Sizes) (bounded : IsBounded s) where
  pub row_by_facts : (row : CategoryRow) → RowHolds s bounded row → row_holds s row ≡ true
  row_by_facts row h = λ k.
      le-leb 1 row.chunks h.some k && le-leb (37 * row.chunks) row.bytes h.least k && le-leb row.bytes ((36 + s.max) * row.chunks) h.most k && lt-ltb ((36 + s.max) * row.chunks) (2 ^ 64) h.fits k

  -- two rows are one, where their bytes lie in the extents that there are
  pub rows_join : (one two : CategoryRow) (start : ℕ) → row_holds s one ≡ true → row_holds s two ≡ true → one.bytes + two.bytes ≤ s.extents * s.extent →
      row_holds s (record { start = start; chunks = one.chunks + two.chunks; bytes = one.bytes + two.bytes }) ≡ true
  rows_join one two start h1 h2 inside =
      let a : RowHolds s bounded one = row_of s bounded one h1 in
      let b : RowHolds s bounded two = row_of s bounded two h2 in
      let n = one.chunks + two.chunks in
      let all : s.extents * s.extent ≤ 65536 * s.extent = mul-le-mul_right {m = s.extents} {n = 65536} s.extent bounded.extents in
      let most : (36 + s.max) * n ≤ 65572 * n = mul-le-mul_right {m = 36 + s.max} {n = 65572} n (omega (arith, bounded.chunk)) in
      let joined : (36 + s.max) * one.chunks + (36 + s.max) * two.chunks ≡ (36 + s.max) * n = omega arith in
      row_by_facts (record { start = start; chunks = n; bytes = one.bytes + two.bytes })
      (record {
        some = omega (arith, a.some);
        least = omega (arith, a.least, b.least);
        most = omega (arith, a.most, b.most, joined);
        fits = omega (arith, most, all, inside, a.least, b.least, bounded.extent_high);
      })

-- ---- the rows of a volume where another version is the oldest

taken_bytes : (r : ℕ) (row : CategoryRow) (rows : List CategoryRow) → bytes_of_rows (taking_in r row rows) ≡ row.bytes + bytes_of_rows rows
taken_bytes r row [] = sum_by-cons (λ x. x.bytes) (record row { start = max r row.start }) []
taken_bytes r row (second ∷ rows) =
    let f : CategoryRow → ℕ = λ x. x.bytes in
    elim (nat_le second.start r) as (λ t. sum_by f (cond t (taking_in r (both_rows row second) rows) (record row { start = max r row.start } ∷ second ∷ rows)) ≡ row.bytes + sum_by f (second ∷ rows)) [
      | true ↦ omega (arith, taken_bytes r (both_rows row second) rows, sum_by-cons f second rows)
      | false ↦ sum_by-cons f (record row { start = max r row.start }) (second ∷ rows)
    ]

begun_bytes : (r : ℕ) (rows : List CategoryRow) → bytes_of_rows (rows_to r rows) ≡ bytes_of_rows rows
begun_bytes r [] = refl
begun_bytes r (row ∷ rows) = taken_bytes r row rows ∙ sym (sum_by-cons (λ (x : CategoryRow). x.bytes) row rows)

module _ (s : Sizes) (bounded : IsBounded s) where
  taken_hold : (r : ℕ) (row : CategoryRow) (rows : List CategoryRow) → row_holds s row ≡ true → list_all (row_holds s) rows ≡ true → row.bytes + bytes_of_rows rows ≤ s.extents * s.extent →
      list_all (row_holds s) (taking_in r row rows) ≡ true
  taken_hold r row [] one rest inside = λ k. one k && true
  taken_hold r row (second ∷ rows) one rest inside =
      let f : CategoryRow → ℕ = λ x. x.bytes in
      let two = row_holds s second in
      let others = list_all (row_holds s) rows in
      elim (nat_le second.start r) as (λ t. list_all (row_holds s) (cond t (taking_in r (both_rows row second) rows) (record row { start = max r row.start } ∷ second ∷ rows)) ≡ true) [
        | true ↦
            let joined : row_holds s (both_rows row second) ≡ true = rows_join s bounded row second row.start one (left_and two others rest) (omega (arith, inside, sum_by-cons f second rows)) in
            taken_hold r (both_rows row second) rows joined (right_and two others rest) (omega (arith, inside, sum_by-cons f second rows))
        | false ↦ λ k. one k && rest k
      ]

  begun_hold : (r : ℕ) (rows : List CategoryRow) → list_all (row_holds s) rows ≡ true → bytes_of_rows rows ≤ s.extents * s.extent → list_all (row_holds s) (rows_to r rows) ≡ true
  begun_hold r [] holds inside = refl
  begun_hold r (row ∷ rows) holds inside =
      let one = row_holds s row in
      let others = list_all (row_holds s) rows in
      taken_hold r row rows (left_and one others holds) (right_and one others holds) (omega (arith, inside, sum_by-cons (λ (x : CategoryRow). x.bytes) row rows))

-- numbers that ascend, by their first
pub record AscendsFrom (low high n : ℕ) (ns : List ℕ) : Type 0 where
  pub above : low ≤ n
  pub below : n ≤ high
  pub rest : ascends (n + 1) high ns ≡ true

pub ascends_first : (low high n : ℕ) (ns : List ℕ) → ascends low high (n ∷ ns) ≡ true → AscendsFrom low high n ns
ascends_first low high n ns h =
    let bounds = nat_le low n && nat_le n high in
    let both : bounds ≡ true = left_and bounds (ascends (n + 1) high ns) h in
    record {
      above = leb-true low n (left_and (nat_le low n) (nat_le n high) both);
      below = leb-true n high (right_and (nat_le low n) (nat_le n high) both);
      rest = right_and bounds (ascends (n + 1) high ns) h;
    }

pub ascends_cons : (low high n : ℕ) (ns : List ℕ) → low ≤ n → n ≤ high → ascends (n + 1) high ns ≡ true → ascends low high (n ∷ ns) ≡ true
ascends_cons low high n ns above below rest = λ k. le-leb low n above k && le-leb n high below k && rest k

taken_ascend : (r j low : ℕ) (row : CategoryRow) (rows : List CategoryRow) → r ≤ j → row.start ≤ j → row.start < low → ascends low j (row_starts rows) ≡ true → ascends r j (row_starts (taking_in r row rows)) ≡ true
taken_ascend r j low row [] le below before h = ascends_cons r j (max r row.start) [] (omega arith) (omega (arith, le, below)) refl
taken_ascend r j low row (second ∷ rows) le below before h =
    let next : AscendsFrom low j second.start (row_starts rows) = ascends_first low j second.start (row_starts rows) h in
    elim (nat_le second.start r) as (λ t. nat_le second.start r ≡ t → ascends r j (row_starts (cond t (taking_in r (both_rows row second) rows) (record row { start = max r row.start } ∷ second ∷ rows))) ≡ true) [
      | true ↦ λ e. taken_ascend r j (second.start + 1) (both_rows row second) rows le below (omega (arith, before, next.above)) next.rest
      | false ↦ λ e.
          ascends_cons r j (max r row.start) (row_starts (second ∷ rows)) (omega arith) (omega (arith, le, below))
          (ascends_cons (max r row.start + 1) j second.start (row_starts rows) (omega (arith, leb-false second.start r e, before, next.above)) next.below next.rest)
    ] refl

begun_ascend : (o r j : ℕ) (rows : List CategoryRow) → r ≤ j → ascends o j (row_starts rows) ≡ true → ascends r j (row_starts (rows_to r rows)) ≡ true
begun_ascend o r j [] le h = refl
begun_ascend o r j (row ∷ rows) le h =
    let at : AscendsFrom o j row.start (row_starts rows) = ascends_first o j row.start (row_starts rows) h in
    taken_ascend r j (row.start + 1) row rows le at.below (omega arith) at.rest

begun_starts : (o r j : ℕ) (es : List VolumeEntry) → r ≤ j → starts_hold o j es ≡ true → starts_hold r j (map (begun_from r) es) ≡ true
begun_starts o r j [] le h = refl
begun_starts o r j (e ∷ es) le h =
    let here = ascends o j (row_starts e.rows) in
    let first : ascends r j (row_starts (rows_to r e.rows)) ≡ true = begun_ascend o r j e.rows le (left_and here (starts_hold o (j + 1) es) h) in
    let rest : starts_hold r (j + 1) (map (begun_from r) es) ≡ true = begun_starts o r (j + 1) es (omega (arith, le)) (right_and here (starts_hold o (j + 1) es) h) in
    λ k. first k && rest k

-- ---- what volumes own

module _ (s : Sizes) (bounded : IsBounded s) where
  begun_volume : (r : ℕ) (e : VolumeEntry) → volume_holds s e ≡ true → length e.extents ≤ s.extents → volume_holds s (begun_from r e) ≡ true
  begun_volume r e h few =
      let hold = list_all (row_holds s) e.rows in
      let count = length e.extents == up s.extent (bytes_of_rows e.rows) in
      let fits = fits_eight (bytes_of_rows e.rows) in
      let two : (hold && count) ≡ true = left_and (hold && count) fits h in
      let enough : bytes_of_rows e.rows ≤ length e.extents * s.extent = up-enough s.extent (bytes_of_rows e.rows) (length e.extents) bounded.extent (eqb-true (length e.extents) (up s.extent (bytes_of_rows e.rows)) (right_and hold count two)) in
      let most : length e.extents * s.extent ≤ s.extents * s.extent = mul-le-mul_right {m = length e.extents} {n = s.extents} s.extent few in
      let same : bytes_of_rows (rows_to r e.rows) ≡ bytes_of_rows e.rows = begun_bytes r e.rows in
      let rows : list_all (row_holds s) (rows_to r e.rows) ≡ true = begun_hold s bounded r e.rows (left_and hold count two) (omega (arith, enough, most)) in
      λ k.
      rows k
      && (ap (λ n. length e.extents == up s.extent n) same ∙ right_and hold count two) k
      && (ap fits_eight same ∙ right_and (hold && count) fits h) k

  begun_volumes : (r : ℕ) (es : List VolumeEntry) → list_all (volume_holds s) es ≡ true → length (flat_map (λ e. e.extents) es) ≤ s.extents → list_all (volume_holds s) (map (begun_from r) es) ≡ true
  begun_volumes r [] h few = refl
  begun_volumes r (e ∷ es) h few =
      let both : length (e.extents ++ flat_map (λ (x : VolumeEntry). x.extents) es) ≡ length e.extents + length (flat_map (λ (x : VolumeEntry). x.extents) es) = length-append e.extents (flat_map (λ (x : VolumeEntry). x.extents) es) in
      let first : volume_holds s (begun_from r e) ≡ true = begun_volume r e (left_and (volume_holds s e) (list_all (volume_holds s) es) h) (omega (arith, few, both)) in
      let rest : list_all (volume_holds s) (map (begun_from r) es) ≡ true = begun_volumes r es (right_and (volume_holds s e) (list_all (volume_holds s) es) h) (omega (arith, few, both)) in
      λ k. first k && rest k

-- ---- numbers of which some went

pub all_by_each : (p : ℕ → Bool) (ns : List ℕ) → ((n : ℕ) → Contains ns n → p n ≡ true) → list_all p ns ≡ true
all_by_each p [] each = refl
all_by_each p (n ∷ ns) each =
    let here : p n ≡ true = each n (first n ns n refl) in
    let rest : list_all p ns ≡ true = all_by_each p ns (λ m has. each m (later n ns m has)) in
    λ k. here k && rest k

-- numbers that are extents, each once, are so without some of them and in another order
pub fewer_hold : (top : ℕ) (all kept gone : List ℕ) → IsPermutation all (kept ++ gone) → (list_all (λ n. nat_lt n top) all && all_differ all) ≡ true → (list_all (λ n. nat_lt n top) kept && all_differ kept) ≡ true
fewer_hold top all kept gone moved h =
    let test : ℕ → Bool = λ n. nat_lt n top in
    let below : All (λ n. test n ≡ true) all = All-from_list_all test (λ n. test n ≡ true) (λ n e. e) all (left_and (list_all test all) (all_differ all) h) in
    let extents : list_all test kept ≡ true =
    all_by_each test kept (λ n has. All-contains (λ m. test m ≡ true) all n below (Contains-permutation (kept ++ gone) all n (IsPermutation-sym all (kept ++ gone) moved) (Contains-append_left kept gone n has))) in
    let once : all_differ kept ≡ true =
    all_differ-once kept (distinct_left kept gone (IsDistinct-IsPermutation nat_eq flips all (kept ++ gone) moved (distinct_of all (right_and (list_all test all) (all_differ all) h)))) in
    λ k. extents k && once k

-- ---- the whole catalogue

drop_all : {X : Type 0} (p : X → Bool) (d : ℕ) (xs : List X) → list_all p xs ≡ true → list_all p (drop d xs) ≡ true
drop_all p zero xs h = h
drop_all p (suc d) [] h = refl
drop_all p (suc d) (x ∷ xs) h = drop_all p d xs (right_and (p x) (list_all p xs) h)

waits_on : (c d : Catalogue) (phase : Phase) → phase_holds c phase ≡ true → d.base ≡ c.base → d.newest ≡ c.newest → (phase ≡ Settled) ⊎ (2 ≤ length d.versions) → phase_holds d phase ≡ true
waits_on c d Settled h base newest more = refl
waits_on c d (Waiting cursor) h base newest more =
    let two = nat_le 2 (length c.versions) in
    let low = nat_lt c.base cursor in
    let high = nat_le cursor c.newest in
    let many : 2 ≤ length d.versions = ⊎_elim (λ settled. absurd (waits settled)) (λ le. le) more in
    λ k. le-leb 2 (length d.versions) many k && (ap (λ n. nat_lt n cursor) base ∙ right_and two low (left_and (two && low) high h)) k && (ap (λ n. nat_le cursor n) newest ∙ right_and (two && low) high h) k
  where
    waits : Waiting cursor ≡ Settled → ⊥
    waits e = cc

-- with the only version everything goes
nothing_rules : (s : Sizes) (c : Catalogue) → c.newest < 2 ^ 32 → obeys s (emptied_catalogue c) ≡ true
nothing_rules s c small =
    let numbers : numbers_hold s (emptied_catalogue c) ≡ true =
    λ k. le-leb 0 s.retain (omega arith) k && le-leb (c.newest + 0) c.newest (omega arith) k && (false || eq-eqb c.newest c.newest refl k) && lt-ltb c.newest (2 ^ 32) small k && true in
    obeys_by_rules s (emptied_catalogue c) (record { numbers = numbers; phase = refl; versions = refl; starts = refl; open_starts = refl; volumes = refl; actives = refl; extents = refl })

later_starts : (o j d : ℕ) (es : List VolumeEntry) → starts_hold o j es ≡ true → starts_hold o (j + d) (drop d es) ≡ true
later_starts o j zero es h = let same : j ≡ j + 0 = omega arith in subst (λ n. starts_hold o n es ≡ true) same h
later_starts o j (suc d) [] h = refl
later_starts o j (suc d) (e ∷ es) h =
    let same : j + 1 + d ≡ j + suc d = omega arith in
    subst (λ n. starts_hold o n (drop d es) ≡ true) same (later_starts o (j + 1) d es (right_and (ascends o j (row_starts e.rows)) (starts_hold o (j + 1) es) h))

fewer_owned : (d : ℕ) (es : List VolumeEntry) → length (flat_map (λ e. e.extents) (drop d es)) ≤ length (flat_map (λ (e : VolumeEntry). e.extents) es)
fewer_owned zero es = omega arith
fewer_owned (suc d) [] = omega arith
fewer_owned (suc d) (e ∷ es) = omega (arith, fewer_owned d es, length-append e.extents (flat_map (λ (x : VolumeEntry). x.extents) es))

-- with others left the oldest go
module _ (s : Sizes) (bounded : IsBounded s) (d : ℕ) (c : Catalogue) (rules : obeys s c ≡ true) (fits : FitsDrop d c) (more : d < retained_in c) where
  abbrev rest : Catalogue
  rest = fewer_in d c

  after_drop-is : after_drop d c ≡ rest
  after_drop-is = ap (λ t. cond t (emptied_catalogue c) rest) (lt-leb (retained_in c) d more)

  each : Rules s c
  each = rules_of s c rules

  numbers : NumbersHold s c
  numbers = numbers_of s c each.numbers

  fewer : length rest.versions ≡ length c.versions - d
  fewer = length-drop d c.versions

  next : oldest_in rest ≡ oldest_in c + d
  next = omega (arith, fewer, more, numbers.base)

  rest_numbers : numbers_hold s rest ≡ true
  rest_numbers =
      let volumes : length rest.volumes ≡ length rest.versions - 1 =
      length-map (drop d c.volumes) (begun_from (oldest_in c + d)) ∙ omega (arith, length-drop d c.volumes, numbers.volumes, fewer) in
      λ k.
      le-leb (length rest.versions) s.retain (omega (arith, fewer, numbers.few)) k
      && le-leb (c.base + length rest.versions) c.newest (omega (arith, fewer, numbers.base)) k
      && (lt-ltb 0 (length rest.versions) (omega (arith, fewer, more)) k || c.base == c.newest)
      && lt-ltb c.newest (2 ^ 32) numbers.newest k
      && eq-eqb (length rest.volumes) (length rest.versions - 1) volumes k

  rest_actives : actives_hold rest ≡ true
  rest_actives =
      let starts = ascends (c.base + 1) c.newest (map (λ (e : OpenEntry). e.row.start) c.actives) in
      let up_to : starts ≡ true = left_and starts (nat_lt 0 (length c.versions) || length c.actives == 0) each.open_starts in
      λ k. up_to k && (lt-ltb 0 (length rest.versions) (omega (arith, fewer, more)) k || length c.actives == 0)

  few_owned : length (flat_map (λ (e : VolumeEntry). e.extents) (drop d c.volumes)) ≤ s.extents
  few_owned =
      let versions : List ℕ = flat_map (λ (e : VersionEntry). e.extents) c.versions in
      let volumes : List ℕ = flat_map (λ (e : VolumeEntry). e.extents) c.volumes in
      omega (arith, (owned_of s bounded c each.extents).few, length-append (versions ++ volumes) (flat_map (λ (e : OpenEntry). e.extents) c.actives), length-append versions volumes, fewer_owned d c.volumes)

  rest_extents : extents_hold s rest ≡ true
  rest_extents =
      let before : extents_hold s c ≡ true = each.extents in
      let all : (list_all (λ n. nat_lt n s.extents) (all_extents c ++ []) && all_differ (all_extents c ++ [])) ≡ true =
      ap (λ ns. list_all (λ n. nat_lt n s.extents) ns && all_differ ns) (append-nil (all_extents c)) ∙ before in
      subst (λ e. extents_hold s e ≡ true) after_drop-is (fewer_hold s.extents (all_extents c ++ []) (all_extents (after_drop d c)) (dropped_by d c) (own-drop d c) all)

  rest_rules : obeys s rest ≡ true
  rest_rules = obeys_by_rules s rest (record {
    numbers = rest_numbers;
    phase = waits_on c rest c.phase each.phase refl refl (⊎_elim (λ settled. inl settled) (λ two. inr (omega (arith, fewer, two))) fits.arranged);
    versions = drop_all (version_holds s) d c.versions each.versions;
    starts = subst (λ o. starts_hold o o rest.volumes ≡ true) (sym next) (begun_starts (oldest_in c) (oldest_in c + d) (oldest_in c + d) (drop d c.volumes) (omega arith) (later_starts (oldest_in c) (oldest_in c) d c.volumes each.starts));
    open_starts = rest_actives;
    volumes = begun_volumes s bounded (oldest_in c + d) (drop d c.volumes) (drop_all (volume_holds s) d c.volumes each.volumes) few_owned;
    actives = each.actives;
    extents = rest_extents;
  })

-- so does the catalogue after the oldest versions are given up, where that fits
pub dropped_rules : (s : Sizes) → IsBounded s → (d : ℕ) (c : Catalogue) → obeys s c ≡ true → FitsDrop d c → obeys s (after_drop d c) ≡ true
dropped_rules s bounded d c rules fits =
    ⊎_elim
    (λ more. subst (λ e. obeys s e ≡ true) (sym (after_drop-is s bounded d c rules fits more)) (rest_rules s bounded d c rules fits more))
    (λ few. subst (λ t. obeys s (cond t (emptied_catalogue c) (fewer_in d c)) ≡ true) (sym (le-leb (retained_in c) d few)) (nothing_rules s c (numbers_of s c (rules_of s c rules).numbers).newest))
    (cases_lt d (retained_in c))
