-- A catalogue after one split more.
use Rattle.std.proofs.Common.{◌≡◌, ◌⊎◌, inl, inr, ⊎_elim, ℕ, zero, suc, ◌+◌, ◌-◌, ◌<◌, ◌≤◌, true, false, cond, ◌&&◌, List, [], ◌∷◌, ◌++◌, length, map, filter, flat_map, max, nat_eq, nat_le, eq-eqb, le-leb, refl, sym, ◌∙◌, ap, subst, arith, append_assoc}
use Rattle.std.specs.Prelude.{All, Contains, ◌==◌}
use Rattle.std.specs.List.{IsDistinct}
use Rattle.std.proofs.lemmas.Bool.{ne_eqb}
use Rattle.std.proofs.lemmas.List.{append-nil}
use Rattle.std.proofs.lemmas.List.Concat.{flat_map-append}
use Rattle.std.proofs.lemmas.List.Elements.{Contains-append_cases, Contains-append_left, Contains-append_right}
use Rattle.bd_model.specs.Laws.{rows_more}
use Rattle.bd_model.specs.Sizes.{Sizes}
use Rattle.bd_model.specs.declared.layout.CategoryRow.{CategoryRow}
use Rattle.bd_model.proofs.ListLemmas.{left_and, right_and}
use Rattle.bd_space.proofs.Distinct.{distinct_head, distinct_tail}
use Rattle.bd_roll.specs.Catalogue.{Catalogue, OpenEntry, VersionEntry, VolumeEntry, all_extents, bytes_of_rows, oldest_in}
use Rattle.bd_roll.specs.Rules.{ascends}
use Rattle.bd_roll.specs.Splitting.{MaySplit, MaySplits, SplitEntry, after_split, after_splits, last_extents, last_grown, last_rows, put_in_place}
use Rattle.bd_roll.proofs.InPlace.{first, later, put_keeps, starts}
use Rattle.bd_roll.proofs.OwnedByStep.{in_categories}
use Rattle.bd_volume.proofs.RowsMore.{bytes-rows_more}

-- ---- one more

pub splits-last : (c : Catalogue) (es : List SplitEntry) (e : SplitEntry) → after_splits c (es ++ e ∷ []) ≡ after_split (after_splits c es) e
splits-last c [] e = refl
splits-last c (x ∷ es) e = splits-last (after_split c x) es e

pub may_last : (s : Sizes) (c : Catalogue) (es : List SplitEntry) (e : SplitEntry) → MaySplits s c es → MaySplit s (after_splits c es) e → MaySplits s c (es ++ e ∷ [])
may_last s c [] e may one = (one, tt)
may_last s c (x ∷ es) e may one = (may.0, may_last s (after_split c x) es e may.1 one)

-- ---- what splits leave

pub record SameNumbers (c d : Catalogue) : Type 0 where
  pub base : d.base ≡ c.base
  pub newest : d.newest ≡ c.newest
  pub phase : d.phase ≡ c.phase
  pub versions : d.versions ≡ c.versions

pub same_numbers : (c : Catalogue) (es : List SplitEntry) → SameNumbers c (after_splits c es)
same_numbers c [] = record { base = refl; newest = refl; phase = refl; versions = refl }
same_numbers c (e ∷ es) =
    let rest : SameNumbers (after_split c e) (after_splits (after_split c e) es) = same_numbers (after_split c e) es in
    record { base = rest.base; newest = rest.newest; phase = rest.phase; versions = rest.versions }

pub same_oldest : (c : Catalogue) (es : List SplitEntry) → oldest_in (after_splits c es) ≡ oldest_in c
same_oldest c es = let same : SameNumbers c (after_splits c es) = same_numbers c es in λ k. same.newest k + 1 - length (same.versions k)

-- an open category of another start
pub still_open : (c : Catalogue) (es : List SplitEntry) (j : ℕ) → (Contains (map (λ (e : SplitEntry). e.start) es) j → ⊥) → Contains (starts c.actives) j → Contains (starts (after_splits c es).actives) j
still_open c [] j other has = has
still_open c (e ∷ es) j other has =
    still_open (after_split c e) es j (λ there. other (later e.start (map (λ (x : SplitEntry). x.start) es) j there))
    (put_keeps e.start j e.kept c.actives (λ same. other (first e.start (map (λ (x : SplitEntry). x.start) es) j same)) has)

-- ---- the last volume

module _ (f : List CategoryRow → List CategoryRow) (added : List ℕ) where
  pub some_grown : (es : List VolumeEntry) → 1 ≤ length es → 1 ≤ length (last_grown f added es)
  some_grown [] some = absurd (omega (arith, some))
  some_grown (e ∷ []) some = omega arith
  some_grown (e ∷ second ∷ es) some = omega arith

  pub extents_grown : (es : List VolumeEntry) → 1 ≤ length es → last_extents (last_grown f added es) ≡ last_extents es ++ added
  extents_grown [] some = absurd (omega (arith, some))
  extents_grown (e ∷ []) some = refl
  extents_grown (e ∷ second ∷ []) some = refl
  extents_grown (e ∷ second ∷ third ∷ es) some = extents_grown (second ∷ third ∷ es) (omega arith)

  pub rows_grown : (es : List VolumeEntry) → 1 ≤ length es → last_rows (last_grown f added es) ≡ f (last_rows es)
  rows_grown [] some = absurd (omega (arith, some))
  rows_grown (e ∷ []) some = refl
  rows_grown (e ∷ second ∷ []) some = refl
  rows_grown (e ∷ second ∷ third ∷ es) some = rows_grown (second ∷ third ∷ es) (omega arith)

pub some_volume : (c : Catalogue) (es : List SplitEntry) → 1 ≤ length c.volumes → 1 ≤ length (after_splits c es).volumes
some_volume c [] some = some
some_volume c (e ∷ es) some = some_volume (after_split c e) es (some_grown (rows_more (max e.start (oldest_in c)) e.chunks e.bytes) e.added c.volumes some)

abbrev pub added_by : List SplitEntry → List ℕ
added_by es = flat_map (λ e. e.added) es

abbrev pub kept_by : List SplitEntry → List ℕ
kept_by es = flat_map (λ e. in_categories e.kept) es

pub extents_after : (c : Catalogue) (es : List SplitEntry) → 1 ≤ length c.volumes → last_extents (after_splits c es).volumes ≡ last_extents c.volumes ++ added_by es
extents_after c [] some = sym (append-nil (last_extents c.volumes))
extents_after c (e ∷ es) some =
    let f = rows_more (max e.start (oldest_in c)) e.chunks e.bytes in
    extents_after (after_split c e) es (some_grown f e.added c.volumes some)
    ∙ ap (λ ns. ns ++ added_by es) (extents_grown f e.added c.volumes some)
    ∙ append_assoc (last_extents c.volumes) e.added (added_by es)

-- its bytes are no fewer
pub bytes_later : (c : Catalogue) (es : List SplitEntry) → 1 ≤ length c.volumes → bytes_of_rows (last_rows c.volumes) ≤ bytes_of_rows (last_rows (after_splits c es).volumes)
bytes_later c [] some = omega arith
bytes_later c (e ∷ es) some =
    let r = max e.start (oldest_in c) in
    let f = rows_more r e.chunks e.bytes in
    omega (
      arith,
      bytes_later (after_split c e) es (some_grown f e.added c.volumes some),
      ap bytes_of_rows (rows_grown f e.added c.volumes some),
      bytes-rows_more r e.chunks e.bytes (last_rows c.volumes),
    )

-- ---- what is owned

module _ (n : ℕ) where
  grown_among : (f : List CategoryRow → List CategoryRow) (added : List ℕ) (es : List VolumeEntry) → Contains (flat_map (λ e. e.extents) (last_grown f added es)) n →
      Contains (flat_map (λ e. e.extents) es) n ⊎ Contains added n
  grown_among f added [] has = inl has
  grown_among f added (e ∷ []) has =
      ⊎_elim
      (λ own. ⊎_elim (λ before. inl (Contains-append_left e.extents [] n before)) (λ new. inr new) (Contains-append_cases e.extents added n own))
      (λ none. absurd (omega (arith, none.1)))
      (Contains-append_cases (e.extents ++ added) [] n has)
  grown_among f added (e ∷ second ∷ es) has =
      let rest = flat_map (λ (x : VolumeEntry). x.extents) (second ∷ es) in
      ⊎_elim
      (λ own. inl (Contains-append_left e.extents rest n own))
      (λ others. ⊎_elim (λ before. inl (Contains-append_right e.extents rest n before)) (λ new. inr new) (grown_among f added (second ∷ es) others))
      (Contains-append_cases e.extents (flat_map (λ (x : VolumeEntry). x.extents) (last_grown f added (second ∷ es))) n has)

  put_among : (i : ℕ) (kept cs : List OpenEntry) → Contains (in_categories (put_in_place i kept cs)) n → Contains (in_categories cs) n ⊎ Contains (in_categories kept) n
  put_among i kept [] has = inl has
  put_among i kept (a ∷ cs) has =
      let rest = in_categories cs in
      let here = elim (nat_eq a.row.start i) as (λ t. Contains (in_categories (cond t kept (a ∷ []))) n → Contains (in_categories (a ∷ cs)) n ⊎ Contains (in_categories kept) n) [
        | true ↦ λ own. inr own
        | false ↦ λ own. inl (⊎_elim (λ mine. Contains-append_left a.extents rest n mine) (λ none. absurd (omega (arith, none.1))) (Contains-append_cases a.extents [] n own))
      ] in
      ⊎_elim here
      (λ others. ⊎_elim (λ before. inl (Contains-append_right a.extents rest n before)) (λ new. inr new) (put_among i kept cs others))
      (Contains-append_cases (in_categories (cond (nat_eq a.row.start i) kept (a ∷ []))) (in_categories (put_in_place i kept cs)) n
      (subst (λ l. Contains l n) (flat_map-append (λ (x : OpenEntry). x.extents) (cond (nat_eq a.row.start i) kept (a ∷ [])) (put_in_place i kept cs)) has))

  split_among : (c : Catalogue) (e : SplitEntry) → Contains (all_extents (after_split c e)) n → Contains (all_extents c) n ⊎ Contains (e.added ++ in_categories e.kept) n
  split_among c e has =
      let f = rows_more (max e.start (oldest_in c)) e.chunks e.bytes in
      let versions = flat_map (λ (x : VersionEntry). x.extents) c.versions in
      let volumes = flat_map (λ (x : VolumeEntry). x.extents) c.volumes in
      let actives = in_categories c.actives in
      let grown = flat_map (λ (x : VolumeEntry). x.extents) (last_grown f e.added c.volumes) in
      let kept = in_categories e.kept in
      ⊎_elim
      (λ closed. ⊎_elim
      (λ own. inl (Contains-append_left (versions ++ volumes) actives n (Contains-append_left versions volumes n own)))
      (λ last. ⊎_elim
      (λ before. inl (Contains-append_left (versions ++ volumes) actives n (Contains-append_right versions volumes n before)))
      (λ new. inr (Contains-append_left e.added kept n new))
      (grown_among f e.added c.volumes last))
      (Contains-append_cases versions grown n closed))
      (λ opens. ⊎_elim
      (λ before. inl (Contains-append_right (versions ++ volumes) actives n before))
      (λ new. inr (Contains-append_right e.added kept n new))
      (put_among e.start e.kept c.actives opens))
      (Contains-append_cases (versions ++ grown) (in_categories (put_in_place e.start e.kept c.actives)) n has)

  -- after splits nobody has an extent that neither the catalogue had nor they took
  pub splits_among : (c : Catalogue) (es : List SplitEntry) → Contains (all_extents (after_splits c es)) n → Contains (all_extents c) n ⊎ (Contains (added_by es) n ⊎ Contains (kept_by es) n)
  splits_among c [] has = inl has
  splits_among c (e ∷ es) has =
      ⊎_elim
      (λ after. ⊎_elim
      (λ before. inl before)
      (λ new. inr (⊎_elim
      (λ added. inl (Contains-append_left e.added (added_by es) n added))
      (λ kept. inr (Contains-append_left (in_categories e.kept) (kept_by es) n kept))
      (Contains-append_cases e.added (in_categories e.kept) n new)))
      (split_among c e after))
      (λ rest. inr (⊎_elim
      (λ added. inl (Contains-append_right e.added (added_by es) n added))
      (λ kept. inr (Contains-append_right (in_categories e.kept) (kept_by es) n kept))
      rest))
      (splits_among (after_split c e) es has)

-- ---- starts that ascend

pub ascends_last : (low high n : ℕ) (ns : List ℕ) → ascends low high ns ≡ true → All (λ m. m < n) ns → low ≤ n → n ≤ high → ascends low high (ns ++ n ∷ []) ≡ true
ascends_last low high n [] up below from to = λ k. (le-leb low n from k && le-leb n high to k) && true
ascends_last low high n (m ∷ ns) up below from to =
    let rest = ascends (m + 1) high ns in
    let here : (nat_le low m && nat_le m high) ≡ true = left_and (nat_le low m && nat_le m high) rest up in
    let up_rest : rest ≡ true = right_and (nat_le low m && nat_le m high) rest up in
    let less : m < n = below 0 m (omega arith) in
    λ k. here k && ascends_last (m + 1) high n ns up_rest (λ i d lt. below (suc i) d (omega (arith, lt))) (omega (arith, less)) to k

-- ---- the category of a start

abbrev pub starting : ℕ → List OpenEntry → List OpenEntry
starting i cs = filter (λ a. a.row.start == i) cs

none_starting : (i : ℕ) (cs : List OpenEntry) → (Contains (starts cs) i → ⊥) → starting i cs ≡ []
none_starting i [] none = refl
none_starting i (a ∷ cs) none =
    ap (λ t. cond t (a ∷ starting i cs) (starting i cs)) (ne_eqb a.row.start i (λ same. none (first a.row.start (starts cs) i same)))
    ∙ none_starting i cs (λ has. none (later a.row.start (starts cs) i has))

pub start_among : (cs : List OpenEntry) (a : OpenEntry) → Contains cs a → Contains (starts cs) a.row.start
start_among [] a has = absurd (omega (arith, has.1))
start_among (x ∷ cs) a (zero, lt, at) = first x.row.start (starts cs) a.row.start (ap (λ (y : OpenEntry). y.row.start) at)
start_among (x ∷ cs) a (suc k, lt, at) = later x.row.start (starts cs) a.row.start (start_among cs a (k, omega (arith, lt), at))

-- there is one
pub one_starting : (cs : List OpenEntry) (a : OpenEntry) → IsDistinct nat_eq (starts cs) → Contains cs a → starting a.row.start cs ≡ a ∷ []
one_starting [] a differ has = absurd (omega (arith, has.1))
one_starting (x ∷ cs) a differ (zero, lt, at) =
    let here : nat_eq x.row.start a.row.start ≡ true = eq-eqb x.row.start a.row.start (ap (λ (y : OpenEntry). y.row.start) at) in
    let none : Contains (starts cs) a.row.start → ⊥ = subst (λ (y : OpenEntry). Contains (starts cs) y.row.start → ⊥) at (distinct_head x.row.start (starts cs) differ) in
    ap (λ t. cond t (x ∷ starting a.row.start cs) (starting a.row.start cs)) here
    ∙ (λ k. at k ∷ none_starting a.row.start cs none k)
one_starting (x ∷ cs) a differ (suc k, lt, at) =
    let has : Contains cs a = (k, omega (arith, lt), at) in
    let other : nat_eq x.row.start a.row.start ≡ false = ne_eqb x.row.start a.row.start (λ same. distinct_head x.row.start (starts cs) differ (subst (Contains (starts cs)) (sym same) (start_among cs a has))) in
    ap (λ t. cond t (x ∷ starting a.row.start cs) (starting a.row.start cs)) other
    ∙ one_starting cs a (distinct_tail x.row.start (starts cs) differ) has
