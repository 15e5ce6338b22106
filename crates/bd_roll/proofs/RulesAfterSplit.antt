-- A catalogue obeys its rules after one of its open categories is split.
use Rattle.std.proofs.Common.{◌≡◌, ⊎_elim, ℕ, suc, ◌+◌, ◌-◌, ◌*◌, ◌^◌, ◌<◌, ◌≤◌, Bool, true, false, cond, ◌&&◌, ◌||◌, ◌==◌, List, [], ◌∷◌, ◌++◌, length, max, sum_by, flat_map, nat_eq, nat_le, nat_lt, eq-eqb, lt-ltb, refl, sym, ◌∙◌, ap, arith, subst, length-append, append_assoc}
use Rattle.std.specs.Prelude.{All, Contains, IsPermutation}
use Rattle.std.specs.List.{IsDistinct, list_all}
use Rattle.std.proofs.Math.Nat.{mul-le-mul_right}
use Rattle.std.proofs.lemmas.Bool.{ne_eqb}
use Rattle.std.proofs.lemmas.List.Elements.{All-contains}
use Rattle.std.proofs.lemmas.List.Folds.{list_all-append}
use Rattle.std.proofs.lemmas.List.Sums.{sum_by-cons}
use Rattle.bd_model.specs.Laws.{rows_more}
use Rattle.bd_model.specs.Room.{up}
use Rattle.bd_model.specs.Sizes.{Sizes}
use Rattle.bd_model.specs.declared.layout.CategoryRow.{CategoryRow}
use Rattle.bd_model.proofs.ListLemmas.{left_and, right_and}
use Rattle.bd_model.proofs.RoomLemmas.{up-enough}
use Rattle.bd_roll.specs.Catalogue.{Catalogue, VersionEntry, VolumeEntry, OpenEntry, all_extents, bytes_of_rows, oldest_in, row_starts}
use Rattle.bd_roll.specs.Rules.{actives_hold, active_holds, all_differ, ascends, extents_hold, fits_eight, numbers_hold, obeys, row_holds, starts_hold, volume_holds}
use Rattle.bd_roll.specs.Splitting.{MaySplit, SplitEntry, after_split, extents_at, last_extents, last_grown, last_rows, put_in_place}
use Rattle.bd_roll.proofs.CountedNumbers.{permutation_by_times, times-append}
use Rattle.bd_roll.proofs.RulesAfterDrop.{AscendsFrom, all_by_each, ascends_cons, ascends_first, fewer_hold, obeys_by_rules, row_by_facts, rows_join}
use Rattle.bd_roll.proofs.InPlace.{put_head, put_later, same_or_not, starts}
use Rattle.bd_roll.proofs.RuleLemmas.{IsBounded, NumbersHold, Rules, numbers_of, open_ascend, owned_of, rules_of}
use Rattle.bd_roll.proofs.OwnedByStep.{all_times, distinct_ascending, in_categories, last_times, put_times, waiting_volume}

-- ---- more of the last row

more_bytes : (r chunks bytes : ℕ) (rows : List CategoryRow) → bytes_of_rows (rows_more r chunks bytes rows) ≡ bytes_of_rows rows + bytes
more_bytes r chunks bytes [] = omega (arith, sum_by-cons (λ (x : CategoryRow). x.bytes) (record { start = r; chunks = chunks; bytes = bytes }) [])
more_bytes r chunks bytes (row ∷ []) =
    let f : CategoryRow → ℕ = λ x. x.bytes in
    let new : CategoryRow = record { start = r; chunks = chunks; bytes = bytes } in
    let grown : CategoryRow = record row { chunks = row.chunks + chunks; bytes = row.bytes + bytes } in
    elim (row.start == r) as (λ t. sum_by f (cond t (grown ∷ []) (row ∷ new ∷ [])) ≡ sum_by f (row ∷ []) + bytes) [
      | true ↦ omega (arith, sum_by-cons f grown [], sum_by-cons f row [])
      | false ↦ omega (arith, sum_by-cons f row (new ∷ []), sum_by-cons f new [], sum_by-cons f row [])
    ]
more_bytes r chunks bytes (row ∷ second ∷ rows) =
    let f : CategoryRow → ℕ = λ x. x.bytes in
    omega (arith, sum_by-cons f row (rows_more r chunks bytes (second ∷ rows)), sum_by-cons f row (second ∷ rows), more_bytes r chunks bytes (second ∷ rows))

more_ascend : (low j r chunks bytes : ℕ) (rows : List CategoryRow) → low ≤ r → r ≤ j → All (λ row. row.start ≤ r) rows → ascends low j (row_starts rows) ≡ true →
    ascends low j (row_starts (rows_more r chunks bytes rows)) ≡ true
more_ascend low j r chunks bytes [] above below order h = ascends_cons low j r [] above below refl
more_ascend low j r chunks bytes (row ∷ []) above below order h =
    let at : AscendsFrom low j row.start [] = ascends_first low j row.start [] h in
    let new : CategoryRow = record { start = r; chunks = chunks; bytes = bytes } in
    let grown : CategoryRow = record row { chunks = row.chunks + chunks; bytes = row.bytes + bytes } in
    ⊎_elim
    (λ same. subst (λ t. ascends low j (row_starts (cond t (grown ∷ []) (row ∷ new ∷ []))) ≡ true) (sym (eq-eqb row.start r same)) h)
    (λ other.
    let less : row.start ≤ r = order 0 row (omega arith) in
    subst (λ t. ascends low j (row_starts (cond t (grown ∷ []) (row ∷ new ∷ []))) ≡ true) (sym (ne_eqb row.start r other))
    (ascends_cons low j row.start (r ∷ []) at.above at.below (ascends_cons (row.start + 1) j r [] (omega (arith, less, other)) below refl)))
    (same_or_not row.start r)
more_ascend low j r chunks bytes (row ∷ second ∷ rows) above below order h =
    let at : AscendsFrom low j row.start (row_starts (second ∷ rows)) = ascends_first low j row.start (row_starts (second ∷ rows)) h in
    let next : AscendsFrom (row.start + 1) j second.start (row_starts rows) = ascends_first (row.start + 1) j second.start (row_starts rows) at.rest in
    let less : second.start ≤ r = order 1 second (omega arith) in
    ascends_cons low j row.start (row_starts (rows_more r chunks bytes (second ∷ rows))) at.above at.below
    (more_ascend (row.start + 1) j r chunks bytes (second ∷ rows) (omega (arith, less, next.above)) below (λ k d lt. order (suc k) d (omega (arith, lt))) at.rest)

module _ (s : Sizes) (bounded : IsBounded s) where
  more_hold : (r chunks bytes : ℕ) (rows : List CategoryRow) → list_all (row_holds s) rows ≡ true → row_holds s (record { start = r; chunks = chunks; bytes = bytes }) ≡ true →
      bytes_of_rows rows + bytes ≤ s.extents * s.extent → list_all (row_holds s) (rows_more r chunks bytes rows) ≡ true
  more_hold r chunks bytes [] holds new inside = λ k. new k && true
  more_hold r chunks bytes (row ∷ []) holds new inside =
      let added : CategoryRow = record { start = r; chunks = chunks; bytes = bytes } in
      let grown : CategoryRow = record row { chunks = row.chunks + chunks; bytes = row.bytes + bytes } in
      let one : row_holds s row ≡ true = left_and (row_holds s row) true holds in
      elim (row.start == r) as (λ t. list_all (row_holds s) (cond t (grown ∷ []) (row ∷ added ∷ [])) ≡ true) [
        | true ↦
            let both : row_holds s grown ≡ true = rows_join s bounded row added row.start one new (omega (arith, inside, sum_by-cons (λ (x : CategoryRow). x.bytes) row [])) in
            λ k. both k && true
        | false ↦ λ k. one k && (new k && true)
      ]
  more_hold r chunks bytes (row ∷ second ∷ rows) holds new inside =
      let one = row_holds s row in
      let rest = list_all (row_holds s) (second ∷ rows) in
      let later : list_all (row_holds s) (rows_more r chunks bytes (second ∷ rows)) ≡ true =
      more_hold r chunks bytes (second ∷ rows) (right_and one rest holds) new (omega (arith, inside, sum_by-cons (λ (x : CategoryRow). x.bytes) row (second ∷ rows))) in
      λ k. left_and one rest holds k && later k

-- ---- the last volume

pub length-last : (f : List CategoryRow → List CategoryRow) (added : List ℕ) (es : List VolumeEntry) → length (last_grown f added es) ≡ length es
length-last f added [] = refl
length-last f added (e ∷ []) = refl
length-last f added (e ∷ second ∷ es) = ap suc (length-last f added (second ∷ es))

last_starts : (o j r chunks bytes : ℕ) (added : List ℕ) (es : List VolumeEntry) → o ≤ r → r + 1 ≤ j + length es → All (λ row. row.start ≤ r) (last_rows es) → starts_hold o j es ≡ true →
    starts_hold o j (last_grown (rows_more r chunks bytes) added es) ≡ true
last_starts o j r chunks bytes added [] above below order h = refl
last_starts o j r chunks bytes added (e ∷ []) above below order h =
    let here : ascends o j (row_starts (rows_more r chunks bytes e.rows)) ≡ true = more_ascend o j r chunks bytes e.rows above (omega (arith, below)) order (left_and (ascends o j (row_starts e.rows)) true h) in
    λ k. here k && true
last_starts o j r chunks bytes added (e ∷ second ∷ es) above below order h =
    let here = ascends o j (row_starts e.rows) in
    let rest : starts_hold o (j + 1) (last_grown (rows_more r chunks bytes) added (second ∷ es)) ≡ true =
    last_starts o (j + 1) r chunks bytes added (second ∷ es) above (omega (arith, below)) order (right_and here (starts_hold o (j + 1) (second ∷ es)) h) in
    λ k. left_and here (starts_hold o (j + 1) (second ∷ es)) h k && rest k

last_holds : (s : Sizes) (f : List CategoryRow → List CategoryRow) (added : List ℕ) (es : List VolumeEntry) → list_all (volume_holds s) es ≡ true →
    volume_holds s (record { rows = f (last_rows es); extents = last_extents es ++ added }) ≡ true → list_all (volume_holds s) (last_grown f added es) ≡ true
last_holds s f added [] h last = refl
last_holds s f added (e ∷ []) h last = λ k. last k && true
last_holds s f added (e ∷ second ∷ es) h last =
    let here = volume_holds s e in
    let rest : list_all (volume_holds s) (last_grown f added (second ∷ es)) ≡ true = last_holds s f added (second ∷ es) (right_and here (list_all (volume_holds s) (second ∷ es)) h) last in
    λ k. left_and here (list_all (volume_holds s) (second ∷ es)) h k && rest k

last_held : (s : Sizes) (es : List VolumeEntry) → 1 ≤ length es → list_all (volume_holds s) es ≡ true → list_all (row_holds s) (last_rows es) ≡ true
last_held s [] some h = absurd (omega (arith, some))
last_held s (e ∷ []) some h =
    let hold = list_all (row_holds s) e.rows in
    let count = length e.extents == up s.extent (bytes_of_rows e.rows) in
    left_and hold count (left_and (hold && count) (fits_eight (bytes_of_rows e.rows)) (left_and (volume_holds s e) true h))
last_held s (e ∷ second ∷ es) some h = last_held s (second ∷ es) (omega arith) (right_and (volume_holds s e) (list_all (volume_holds s) (second ∷ es)) h)

last_among : (f : List CategoryRow → List CategoryRow) (added : List ℕ) (es : List VolumeEntry) → 1 ≤ length es → length (last_extents es ++ added) ≤ length (flat_map (λ e. e.extents) (last_grown f added es))
last_among f added [] some = absurd (omega (arith, some))
last_among f added (e ∷ []) some = omega (arith, length-append (e.extents ++ added) [])
last_among f added (e ∷ second ∷ es) some =
    omega (arith, last_among f added (second ∷ es) (omega arith), length-append e.extents (flat_map (λ (x : VolumeEntry). x.extents) (last_grown f added (second ∷ es))))

-- ---- the open categories

pub ascends_lower : (low from high : ℕ) (ns : List ℕ) → low ≤ from → ascends from high ns ≡ true → ascends low high ns ≡ true
ascends_lower low from high [] le h = refl
ascends_lower low from high (n ∷ ns) le h =
    let at : AscendsFrom from high n ns = ascends_first from high n ns h in
    ascends_cons low high n ns (omega (arith, le, at.above)) at.below at.rest

put_ascend : (low high i : ℕ) (kept cs : List OpenEntry) → All (λ a. a.row.start ≡ i) kept → length kept ≤ 1 → ascends low high (starts cs) ≡ true → ascends low high (starts (put_in_place i kept cs)) ≡ true
put_ascend low high i kept [] named one h = refl
put_ascend low high i kept (a ∷ cs) named one h =
    let at : AscendsFrom low high a.row.start (starts cs) = ascends_first low high a.row.start (starts cs) h in
    ⊎_elim
    (λ same.
    subst (λ xs. ascends low high (starts xs) ≡ true) (sym (put_head i a cs kept (distinct_ascending low high (starts (a ∷ cs)) h) same))
    (with_kept kept named one same at))
    (λ other.
    subst (λ xs. ascends low high (starts xs) ≡ true) (sym (put_later i a cs kept other))
    (ascends_cons low high a.row.start (starts (put_in_place i kept cs)) at.above at.below (put_ascend (a.row.start + 1) high i kept cs named one at.rest)))
    (same_or_not a.row.start i)
  where
    with_kept : (ks : List OpenEntry) → All (λ x. x.row.start ≡ i) ks → length ks ≤ 1 → a.row.start ≡ i → AscendsFrom low high a.row.start (starts cs) → ascends low high (starts (ks ++ cs)) ≡ true
    with_kept [] all few same at = ascends_lower low (a.row.start + 1) high (starts cs) (omega (arith, at.above)) at.rest
    with_kept (x ∷ []) all few same at = subst (λ n. ascends low high (n ∷ starts cs) ≡ true) (same ∙ sym (all 0 x (omega arith))) (ascends_cons low high a.row.start (starts cs) at.above at.below at.rest)
    with_kept (x ∷ y ∷ ks) all few same at = absurd (omega (arith, few))

put_all : (p : OpenEntry → Bool) (i : ℕ) (kept cs : List OpenEntry) → list_all p kept ≡ true → list_all p cs ≡ true → list_all p (put_in_place i kept cs) ≡ true
put_all p i kept [] new h = refl
put_all p i kept (a ∷ cs) new h =
    let rest : list_all p (put_in_place i kept cs) ≡ true = put_all p i kept cs new (right_and (p a) (list_all p cs) h) in
    elim (nat_eq a.row.start i) as (λ t. list_all p (cond t kept (a ∷ []) ++ put_in_place i kept cs) ≡ true) [
      | true ↦ list_all-append p kept (put_in_place i kept cs) ∙ (λ k. new k && rest k)
      | false ↦ λ k. left_and (p a) (list_all p cs) h k && rest k
    ]

-- ---- the whole catalogue

split_own : (c : Catalogue) (e : SplitEntry) → 1 ≤ length c.volumes → IsDistinct nat_eq (starts c.actives) → Contains (starts c.actives) e.start →
    IsPermutation (all_extents c ++ (e.added ++ in_categories e.kept)) (all_extents (after_split c e) ++ extents_at e.start c.actives)
split_own c e some differ is_open =
    let after : Catalogue = after_split c e in
    permutation_by_times _ _ (λ n. omega (
      arith,
      times-append n (all_extents c) (e.added ++ in_categories e.kept),
      times-append n e.added (in_categories e.kept),
      times-append n (all_extents after) (extents_at e.start c.actives),
      all_times n c,
      all_times n after,
      last_times n (rows_more (max e.start (oldest_in c)) e.chunks e.bytes) e.added c.volumes some,
      put_times n e.start e.kept c.actives differ is_open,
    ))

module _ (s : Sizes) (bounded : IsBounded s) (c : Catalogue) (e : SplitEntry) (rules : obeys s c ≡ true) (may : MaySplit s c e) where
  abbrev r : ℕ
  r = max e.start (oldest_in c)

  abbrev after : Catalogue
  after = after_split c e

  each : Rules s c
  each = rules_of s c rules

  numbers : NumbersHold s c
  numbers = numbers_of s c each.numbers

  some : 1 ≤ length c.volumes
  some = waiting_volume s c rules may.waits

  after_numbers : numbers_hold s after ≡ true
  after_numbers =
      let count : length after.volumes ≡ length c.volumes = length-last (rows_more r e.chunks e.bytes) e.added c.volumes in
      ap (λ n. nat_le (length c.versions) s.retain && nat_le (c.base + length c.versions) c.newest && (nat_lt 0 (length c.versions) || c.base == c.newest) && nat_lt c.newest (2 ^ 32) && (n == length c.versions - 1)) count ∙ each.numbers

  after_starts : starts_hold (oldest_in after) (oldest_in after) after.volumes ≡ true
  after_starts = last_starts (oldest_in c) (oldest_in c) r e.chunks e.bytes e.added c.volumes (omega arith) (omega (arith, numbers.volumes, numbers.base, some, may.below)) may.order each.starts

  after_actives : actives_hold after ≡ true
  after_actives =
      let versions : nat_lt 0 (length c.versions) ≡ true = lt-ltb 0 (length c.versions) (omega (arith, numbers.volumes, some)) in
      let up_to : ascends (c.base + 1) c.newest (starts after.actives) ≡ true = put_ascend (c.base + 1) c.newest e.start e.kept c.actives may.kept_starts may.one (open_ascend c each.open_starts) in
      λ k. up_to k && (versions k || length after.actives == 0)

  after_extents : extents_hold s after ≡ true
  after_extents =
      let test : ℕ → Bool = λ n. nat_lt n s.extents in
      let more : List ℕ = e.added ++ in_categories e.kept in
      let own = all_extents c in
      let below : list_all test (own ++ more) ≡ true =
      list_all-append test own more
      ∙ (λ k. left_and (list_all test own) (all_differ own) each.extents k && all_by_each test more (λ n has. lt-ltb n s.extents (All-contains (λ m. m < s.extents) more n may.extents_below has)) k) in
      let once : all_differ (own ++ more) ≡ true = ap all_differ (sym (append_assoc own e.added (in_categories e.kept))) ∙ may.once in
      fewer_hold s.extents (own ++ more) (all_extents after) (extents_at e.start c.actives)
      (split_own c e some (distinct_ascending (c.base + 1) c.newest (starts c.actives) (open_ascend c each.open_starts)) may.is_open) (λ k. below k && once k)

  few : length (last_extents c.volumes ++ e.added) ≤ s.extents
  few =
      let versions : List ℕ = flat_map (λ (x : VersionEntry). x.extents) after.versions in
      let volumes : List ℕ = flat_map (λ (x : VolumeEntry). x.extents) after.volumes in
      omega (
        arith,
        (owned_of s bounded after after_extents).few,
        length-append (versions ++ volumes) (in_categories after.actives),
        length-append versions volumes,
        last_among (rows_more r e.chunks e.bytes) e.added c.volumes some,
      )

  -- the volume's bytes lie in the extents that there are
  inside : bytes_of_rows (last_rows c.volumes) + e.bytes ≤ s.extents * s.extent
  inside =
      let n = length (last_extents c.volumes ++ e.added) in
      let enough : bytes_of_rows (last_rows c.volumes) + e.bytes ≤ n * s.extent = up-enough s.extent (bytes_of_rows (last_rows c.volumes) + e.bytes) n bounded.extent may.room in
      omega (arith, enough, mul-le-mul_right {m = n} {n = s.extents} s.extent few)

  new_row : row_holds s (record { start = r; chunks = e.chunks; bytes = e.bytes }) ≡ true
  new_row =
      let all : s.extents * s.extent ≤ 65536 * s.extent = mul-le-mul_right {m = s.extents} {n = 65536} s.extent bounded.extents in
      let most : (36 + s.max) * e.chunks ≤ 65572 * e.chunks = mul-le-mul_right {m = 36 + s.max} {n = 65572} e.chunks (omega (arith, bounded.chunk)) in
      row_by_facts s bounded (record { start = r; chunks = e.chunks; bytes = e.bytes })
      (record { some = may.some; least = may.low; most = may.high; fits = omega (arith, most, all, inside, may.low, bounded.extent_high) })

  after_volumes : list_all (volume_holds s) after.volumes ≡ true
  after_volumes =
      let rows : List CategoryRow = rows_more r e.chunks e.bytes (last_rows c.volumes) in
      let extents : List ℕ = last_extents c.volumes ++ e.added in
      let bytes : bytes_of_rows rows ≡ bytes_of_rows (last_rows c.volumes) + e.bytes = more_bytes r e.chunks e.bytes (last_rows c.volumes) in
      let all : s.extents * s.extent ≤ 65536 * s.extent = mul-le-mul_right {m = s.extents} {n = 65536} s.extent bounded.extents in
      let held : list_all (row_holds s) rows ≡ true = more_hold s bounded r e.chunks e.bytes (last_rows c.volumes) (last_held s c.volumes some each.volumes) new_row inside in
      let count : (length extents == up s.extent (bytes_of_rows rows)) ≡ true = eq-eqb (length extents) (up s.extent (bytes_of_rows rows)) (may.room ∙ ap (up s.extent) (sym bytes)) in
      let fits : fits_eight (bytes_of_rows rows) ≡ true = lt-ltb (bytes_of_rows rows) (2 ^ 64) (omega (arith, bytes, inside, all, bounded.extent_high)) in
      last_holds s (rows_more r e.chunks e.bytes) e.added c.volumes each.volumes (λ k. held k && count k && fits k)

  -- a split that may be made keeps the rules
  pub split_rules : obeys s after ≡ true
  split_rules = obeys_by_rules s after (record {
    numbers = after_numbers;
    phase = each.phase;
    versions = each.versions;
    starts = after_starts;
    open_starts = after_actives;
    volumes = after_volumes;
    actives = put_all (active_holds s) e.start e.kept c.actives may.kept_holds each.actives;
    extents = after_extents;
  })
