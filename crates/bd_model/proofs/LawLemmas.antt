-- The laws that put other lemmas together.
use Rattle.std.proofs.Common.{◌≡◌, ℕ, ◌+◌, ◌-◌, ◌≤◌, cond, List, [], ◌∷◌, sym, ◌∙◌, ap, arith, sum_by, flat_map, filter, not, zero-add, ◌≢◌, zero, suc, true, false, ◌&&◌, ◌||◌, length, nat_lt, nat_eq, le-ltb, ⊎_elim, ◌<◌, refl}
use Rattle.std.proofs.lemmas.Bool.{cases_lt, false≢true, ne_eqb}
use Rattle.std.proofs.lemmas.List.Sums.{sum_by-cons, sum_by-append}
use Rattle.std.specs.List.{range_with_len}
use Rattle.bd_model.specs.declared.layout.Phase.{Phase}
use Rattle.bd_model.specs.Category.{category}
use Rattle.bd_model.proofs.ArrangeLemmas.{arranges_one, all_done}
use Rattle.bd_model.specs.Chunks.{numbers}
use Rattle.bd_model.specs.History.{VersionHistory, version, newest, contains, oldest, no_versions}
use Rattle.bd_model.specs.declared.layout.Phase.TheVariants.{Settled, Waiting}
use Rattle.bd_model.specs.Layout.{closed_volume, open_category, record_bytes, is_arranged}
use Rattle.bd_model.specs.Room.{up, recipe_bytes, owned, need, fresh, kept, archived, lacks_some, reserve_left}
use Rattle.bd_model.specs.Laws.{grown, ANewVersionSplitsTheCategories, ClosedVolumesGrow, ABackupLeavesItsReserve, RefusalIsExact, ArrangesOne, SameLayout}
use Rattle.bd_model.proofs.ListLemmas.{numbers-none, numbers-cons, filter-none, sum_by-agree, sum_by-numbers, fold-range_with_len}
use Rattle.bd_model.proofs.HistoryLemmas.{version-newest, newest-grown}
use Rattle.bd_model.proofs.CategoryLemmas.{category-earlier, category-archived, category-kept, category-fresh, category-newest}
use Rattle.bd_model.proofs.LayoutLemmas.{closed_volume-earlier, closed_volume-newest, open_category-waiting, open_category-arranged, open_category-settled, open_category-fresh, closed_volume-step}
use Rattle.bd_model.proofs.RoomLemmas.{up-zero, need-reserve_left, owned-grown, reserve_is_free, reserve_left-step, up-le}
use Rattle.bd_model.proofs.CountedLemmas.{counted-above}
use Rattle.bd_model.proofs.FromRecipesLemmas.{counted_of-above}

-- what a filter drops nothing of stays whole
kept_all : (w cs : List (List ℕ)) → filter (λ c. not (contains w c)) cs ≡ [] → filter (contains w) cs ≡ cs
kept_all w [] none = refl
kept_all w (c ∷ cs) none =
    elim (contains w c) as (λ t. cond (not t) (c ∷ filter (λ d. not (contains w d)) cs) (filter (λ d. not (contains w d)) cs) ≡ [] → cond t (c ∷ filter (contains w) cs) (filter (contains w) cs) ≡ c ∷ cs) [
      | true ↦ λ rest. ap (λ ds. c ∷ ds) (kept_all w cs rest)
      | false ↦ λ some. absurd (cc some)
    ] none

pub a_new_version_splits_the_categories : ANewVersionSplitsTheCategories
a_new_version_splits_the_categories = record {
  earlier = category-earlier;
  ended = λ h w i le. category-archived h w i le ∙ ap (filter (λ c. not (contains w c))) (category-newest h i);
  lived_on = λ h w i le. category-kept h w i le ∙ ap (filter (contains w)) (category-newest h i);
  begun = category-fresh;
  untouched = λ h w i none. kept_all w (open_category h Settled i) none;
}

pub closed_volumes_grow : ClosedVolumesGrow
closed_volumes_grow = record {
  none = λ h phase j past.
      let later : nat_lt (j + 1) (newest h) ≡ false = le-ltb (j + 1) (newest h) (omega arith) in
      let other : nat_eq (j + 1) (newest h) ≡ false = ne_eqb (j + 1) (newest h) (λ e. absurd (omega arith)) in
      ap (flat_map (λ i. category h i j)) (filter-none _ (λ i k. later k || (other k && is_arranged phase i)) (numbers (h.base + 1) j));
  earlier = closed_volume-earlier;
  newest_volume = closed_volume-newest;
  waiting = open_category-waiting;
  arranged = open_category-arranged;
  settled = open_category-settled;
  own = open_category-fresh;
}

-- the first version needs what it owns afterwards
pub need-first : (extent base : ℕ) (w : List (List ℕ)) → 1 ≤ extent → let h = no_versions base in need extent h w ≡ owned extent (grown h w) Settled
unfolding need owned
need-first extent base w some =
    let h = no_versions base in
    let none : numbers (base + 1) (base + 0) ≡ [] = numbers-none _ _ (omega arith) in
    let none_closed : numbers (base + 0 + 1) (base + 1 - 1) ≡ [] = numbers-none _ _ (omega arith) in
    let last : newest h + 1 ≡ base + 1 = omega arith in
    let first : base + 0 + 1 ≡ base + 1 = omega arith in
    let one : numbers (base + 1) (base + 1) ≡ (base + 1) ∷ [] = numbers-cons (base + 1) (base + 1) (omega arith) ∙ ap (λ ns. (base + 1) ∷ ns) (numbers-none (base + 1 + 1) (base + 1) (omega arith)) in
    let recipes : sum_by (λ v. up extent (recipe_bytes (version (grown h w) v))) (numbers (base + 0 + 1) (base + 1)) ≡ up extent (recipe_bytes w) =
    ap (λ n. sum_by (λ v. up extent (recipe_bytes (version (grown h w) v))) (numbers n (base + 1))) first
    ∙ ap (sum_by (λ v. up extent (recipe_bytes (version (grown h w) v)))) one
    ∙ zero-add _ ∙ ap (λ n. up extent (recipe_bytes (version (grown h w) n))) (sym last) ∙ ap (λ cs. up extent (recipe_bytes cs)) (version-newest h w) in
    let opens : sum_by (λ i. up extent (record_bytes (open_category (grown h w) Settled i))) (numbers (base + 1) (base + 1)) ≡ up extent (record_bytes (fresh h w)) =
    ap (sum_by (λ i. up extent (record_bytes (open_category (grown h w) Settled i)))) one
    ∙ zero-add _ ∙ ap (λ n. up extent (record_bytes (open_category (grown h w) Settled n))) (sym last) ∙ ap (λ cs. up extent (record_bytes cs)) (open_category-fresh h w Settled) in
    let archived_none : up extent (record_bytes (flat_map (archived h w) (numbers (base + 1) (base + 0)))) ≡ 0 = ap (λ ns. up extent (record_bytes (flat_map (archived h w) ns))) none ∙ up-zero extent some in
    let kept_none : sum_by (λ i. up extent (record_bytes (kept h w i))) (filter (λ i. lacks_some w (open_category h Settled i)) (numbers (base + 1) (base + 0))) ≡ 0 =
    ap (λ ns. sum_by (λ i. up extent (record_bytes (kept h w i))) (filter (λ i. lacks_some w (open_category h Settled i)) ns)) none in
    let volumes : sum_by (λ j. up extent (record_bytes (closed_volume (grown h w) Settled j))) (numbers (base + 0 + 1) (base + 1 - 1)) ≡ 0 =
    ap (sum_by (λ j. up extent (record_bytes (closed_volume (grown h w) Settled j)))) none_closed in
    omega (arith, recipes, opens, archived_none, kept_none, volumes)

-- the part of the reserve that a start takes
split_of : (extent : ℕ) (h : VersionHistory) (w : List (List ℕ)) (i : ℕ) → 1 ≤ extent → i ≤ newest h →
    reserve_left extent (grown h w) (Waiting i) ≡
    (up extent (record_bytes (closed_volume (grown h w) (Waiting (i + 1)) (newest h))) - up extent (record_bytes (closed_volume (grown h w) (Waiting i) (newest h))))
    + cond (lacks_some w (open_category h Settled i)) (up extent (record_bytes (kept h w i))) 0
    + reserve_left extent (grown h w) (Waiting (i + 1))
split_of extent h w i some le =
    reserve_left-step extent h w some i le
    ∙ (λ k. (up extent (record_bytes (sym (closed_volume-newest h w (Waiting (i + 1))) k)) - up extent (record_bytes (sym (closed_volume-newest h w (Waiting i)) k)))
    + cond (lacks_some w (open_category h Settled i)) (up extent (record_bytes (kept h w i))) 0
    + reserve_left extent (grown h w) (Waiting (i + 1)))

-- a sum of which one summand changes
sum_by-one_other : (f g : ℕ → ℕ) (i a n : ℕ) → a ≤ i → i < a + n → ((k : ℕ) → k ≢ i → g k ≡ f k) → sum_by g (range_with_len a n) + f i ≡ sum_by f (range_with_len a n) + g i
sum_by-one_other f g i a zero low high same = absurd (omega arith)
sum_by-one_other f g i a (suc n) low high same =
    ⊎_elim
    (λ less.
    let other : g a ≡ f a = same a (λ e. absurd (omega arith)) in
    omega (arith, sum_by-cons f a (range_with_len (a + 1) n), sum_by-cons g a (range_with_len (a + 1) n), sum_by-one_other f g i (a + 1) n (omega arith) (omega arith) same))
    (λ le.
    let here : a ≡ i = omega arith in
    omega (
      arith,
      sum_by-cons f a (range_with_len (a + 1) n),
      sum_by-cons g a (range_with_len (a + 1) n),
      ap f here,
      ap g here,
      fold-range_with_len g f 0 (a + 1) n (λ v above below. same v (λ e. absurd (omega arith))),
    ))
    (cases_lt a i)

-- where a version lacks none of the chunks all of them are kept
keeps_all : (w cs : List (List ℕ)) → lacks_some w cs ≡ false → filter (contains w) cs ≡ cs
keeps_all w [] = λ none. refl
keeps_all w (c ∷ cs) =
    elim (contains w c) as (λ t. (not t || lacks_some w cs) ≡ false → cond t (c ∷ filter (contains w) cs) (filter (contains w) cs) ≡ c ∷ cs) [
      | true ↦ λ none. ap (λ ds. c ∷ ds) (keeps_all w cs none)
      | false ↦ λ none. absurd (false≢true (sym none))
    ]

module _ (extent : ℕ) (h : VersionHistory) (w : List (List ℕ)) where
  -- what a step of arranging takes and gives back
  owned-step : (i : ℕ) → h.base + 1 ≤ i → i ≤ newest h → h.expired < length h.versions →
      owned extent (grown h w) (Waiting (i + 1)) + up extent (record_bytes (closed_volume (grown h w) (Waiting i) (newest h))) + up extent (record_bytes (open_category h Settled i))
      ≡ owned extent (grown h w) (Waiting i) + up extent (record_bytes (closed_volume (grown h w) (Waiting (i + 1)) (newest h))) + up extent (record_bytes (kept h w i))
  unfolding owned
  owned-step i low high some =
      let g : VersionHistory = grown h w in
      let step : ArrangesOne h w i = arranges_one h w i low high some in
      let last : newest g - 1 ≡ newest h = omega (arith, newest-grown h w) in
      let volume : ℕ → ℕ → ℕ = λ cursor j. up extent (record_bytes (closed_volume g (Waiting cursor) j)) in
      let «open» : ℕ → ℕ → ℕ = λ cursor k. up extent (record_bytes (open_category g (Waiting cursor) k)) in
      omega (
        arith,
        sum_by-one_other (volume i) (volume (i + 1)) (newest h) (oldest h) (newest g - 1 + 1 - oldest h) (omega arith) (omega arith) (λ j other. ap (λ cs. up extent (record_bytes cs)) (step.other_volumes j other)),
        sum_by-one_other («open» i) («open» (i + 1)) i (h.base + 1) (newest g + 1 - (h.base + 1)) (omega arith) (omega arith) (λ k other. ap (λ cs. up extent (record_bytes cs)) (step.other_categories k other)),
        ap (λ cs. up extent (record_bytes cs)) step.before,
        ap (λ cs. up extent (record_bytes cs)) step.category,
      )

stays_free : (extent : ℕ) (h : VersionHistory) (w : List (List ℕ)) (i : ℕ) → 1 ≤ extent → h.base + 1 ≤ i → i ≤ newest h → h.expired < length h.versions →
    owned extent (grown h w) (Waiting (i + 1)) + reserve_left extent (grown h w) (Waiting (i + 1)) ≤ owned extent (grown h w) (Waiting i) + reserve_left extent (grown h w) (Waiting i)
stays_free extent h w i one low high some =
    let before = closed_volume (grown h w) (Waiting i) (newest h) in
    let after = closed_volume (grown h w) (Waiting (i + 1)) (newest h) in
    let more : up extent (record_bytes before) ≤ up extent (record_bytes after) =
    up-le extent (record_bytes before) (record_bytes after) one
    (omega (arith, ap record_bytes (closed_volume-step h w i (omega arith) high), sum_by-append (λ c. 36 + length c) before (archived h w i))) in
    let split = split_of extent h w i one high in
    elim (lacks_some w (open_category h Settled i))
    as (λ t. lacks_some w (open_category h Settled i) ≡ t →
    reserve_left extent (grown h w) (Waiting i) ≡ (up extent (record_bytes after) - up extent (record_bytes before)) + cond t (up extent (record_bytes (kept h w i))) 0 + reserve_left extent (grown h w) (Waiting (i + 1)) →
    owned extent (grown h w) (Waiting (i + 1)) + reserve_left extent (grown h w) (Waiting (i + 1)) ≤ owned extent (grown h w) (Waiting i) + reserve_left extent (grown h w) (Waiting i)) [
      | true ↦ λ e s. omega (arith, owned-step extent h w i low high some)
      | false ↦ λ e s. omega (arith, owned-step extent h w i low high some, ap (λ cs. up extent (record_bytes cs)) (keeps_all w (open_category h Settled i) e))
    ] refl split

-- from any start on
pub from_start : (extent : ℕ) (h : VersionHistory) (w : List (List ℕ)) (i k : ℕ) → 1 ≤ extent → h.base + 1 ≤ i → i + k ≡ newest h + 1 → h.expired < length h.versions →
    owned extent (grown h w) (Waiting (newest h + 1)) ≤ owned extent (grown h w) (Waiting i) + reserve_left extent (grown h w) (Waiting i)
from_start extent h w i zero one low end some = let last : i ≡ newest h + 1 = omega arith in omega (arith, ap (λ n. owned extent (grown h w) (Waiting n)) last)
from_start extent h w i (suc k) one low end some = omega (arith, from_start extent h w (i + 1) k one (omega arith) (omega arith) some, stays_free extent h w i one low (omega arith) some)

pub owned-same : (extent : ℕ) (h : VersionHistory) (one other : Phase) → SameLayout h one other → owned extent h one ≡ owned extent h other
unfolding owned
owned-same extent h one other same =
    omega (
      arith,
      sum_by-agree _ _ (λ j. ap (λ cs. up extent (record_bytes cs)) (same.volumes j)) (numbers (oldest h) (newest h - 1)),
      sum_by-numbers _ _ (h.base + 1) (newest h) (λ i low high. ap (λ cs. up extent (record_bytes cs)) (same.categories i high)),
    )

pub owned-settled : (extent : ℕ) (h : VersionHistory) (w : List (List ℕ)) → 1 ≤ extent → h.expired < length h.versions → owned extent (grown h w) Settled ≤ owned extent h Settled + need extent h w
owned-settled extent h w one some =
    omega (
      arith,
      from_start extent h w (h.base + 1) (newest h - h.base) one (omega arith) (omega arith) some,
      owned-same extent (grown h w) (Waiting (newest h + 1)) Settled (all_done h w),
      need-reserve_left extent h w one,
      owned-grown extent h w one some,
    )

pub a_backup_leaves_its_reserve : ABackupLeavesItsReserve
a_backup_leaves_its_reserve = record {
  needed = λ extent h w some. need-reserve_left extent h w some;
  taken = λ extent h w some kept_some. owned-grown extent h w some kept_some;
  reserve = λ extent extents held h w some kept_some fits. reserve_is_free extent h w some extents held kept_some fits;
  arranging = split_of;
  stays_free = stays_free;
  settled = owned-settled;
  first = need-first;
}

pub refusal_is_exact : RefusalIsExact
refusal_is_exact = record {
  chunks = λ extent free h w some. counted-above extent h some w free;
  recipes = λ extent free old new some. counted_of-above extent some old new free;
}
