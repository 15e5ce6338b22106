-- What giving up the oldest versions takes.
use Rattle.std.proofs.Common.{◌≡◌, ℕ, zero, suc, ◌+◌, ◌-◌, ◌<◌, ◌≤◌, true, cond, ◌&&◌, ◌||◌, [], refl, sym, ◌∙◌, ap, arith, sum_by, length, nat_eq, nat_lt, lt-ltb, subst, zero-add}
use Rattle.std.proofs.lemmas.Bool.{le-leb, lt-leb}
use Rattle.std.proofs.lemmas.List.Sums.{sum_by-cons}
use Rattle.std.specs.List.{flat_map}
use Rattle.bd_model.specs.declared.layout.Phase.{Phase}
use Rattle.bd_model.specs.declared.layout.Phase.TheVariants.{Settled, Waiting}
use Rattle.bd_model.specs.Chunks.{numbers}
use Rattle.bd_model.specs.History.{VersionHistory, version, newest, oldest, retained, no_versions}
use Rattle.bd_model.specs.Category.{category}
use Rattle.bd_model.specs.State.{history}
use Rattle.bd_model.specs.Layout.{closed_volume, open_category, is_arranged, is_closed, record_bytes, rows}
use Rattle.bd_model.specs.Room.{up, owned, recipe_bytes, reserve_left}
use Rattle.bd_model.specs.Step.{dropped_extents, emptied, fewer_by}
use Rattle.bd_model.specs.Laws.{given_up, rows_to, TakesOnlyTheFirst, GivingUpTakesOnlyTheFirst}
use Rattle.bd_model.proofs.ListLemmas.{numbers-cons, numbers-none, filter-same, sum_by-numbers_suc}
use Rattle.bd_model.proofs.RowLemmas.{rows-given_up, rows_in_turn}
use Rattle.bd_model.proofs.StepLemmas.{length-history}

-- a sum over a range without its first number
sum_by-first : (f : ℕ → ℕ) (a a' b : ℕ) → a' ≡ a + 1 → a ≤ b → sum_by f (numbers a b) ≡ f a + sum_by f (numbers a' b)
sum_by-first f a a' b next le = ap (sum_by f) (numbers-cons a b le) ∙ sum_by-cons f a (numbers (a + 1) b) ∙ ap (λ n. f a + sum_by f (numbers n b)) (sym next)

owned-given_up : (extent : ℕ) (h : VersionHistory) (phase : Phase) → 2 ≤ retained h → closed_volume h phase (oldest h) ≡ closed_volume h Settled (oldest h) →
    owned extent h phase ≡ dropped_extents extent h (oldest h) + owned extent (given_up 1 h) phase
unfolding owned
owned-given_up extent h phase more same =
    let next : oldest (given_up 1 h) ≡ oldest h + 1 = omega arith in
    omega (
      arith,
      sum_by-first (λ v. up extent (recipe_bytes (version h v))) (oldest h) (oldest (given_up 1 h)) (newest h) next (omega arith),
      sum_by-first (λ j. up extent (record_bytes (closed_volume h phase j))) (oldest h) (oldest (given_up 1 h)) (newest h - 1) next (omega arith),
      ap (λ cs. up extent (record_bytes cs)) same,
    )

-- one more
again : (d : ℕ) (h : VersionHistory) → given_up 1 (given_up d h) ≡ given_up (suc d) h
again d h = let more : h.expired + d + 1 ≡ h.expired + suc d = omega arith in ap (λ n. record h { expired = n }) more

owned-first : (extent d : ℕ) (h : VersionHistory) (phase : Phase) → d < retained h → ((e : ℕ) → e < d → closed_volume h phase (oldest h + e) ≡ closed_volume h Settled (oldest h + e)) →
    owned extent h phase ≡ sum_by (dropped_extents extent h) (numbers (oldest h) (oldest h + d - 1)) + owned extent (given_up d h) phase
owned-first extent zero h phase more same =
    let none : numbers (oldest h) (oldest h + 0 - 1) ≡ [] = numbers-none _ _ (omega arith) in
    let as_before : h.expired ≡ h.expired + 0 = omega arith in
    sym (zero-add (owned extent h phase)) ∙ (λ k. sum_by (dropped_extents extent h) (sym none k) + owned extent (record h { expired = as_before k }) phase)
owned-first extent (suc d) h phase more same =
    let f : ℕ → ℕ = dropped_extents extent h in
    let g : VersionHistory = given_up d h in
    let at : oldest g ≡ oldest h + d = omega arith in
    let top : oldest h + suc d - 1 ≡ oldest h + d - 1 + 1 = omega arith in
    let last : oldest h + d - 1 + 1 ≡ oldest h + d = omega arith in
    let before : owned extent h phase ≡ sum_by f (numbers (oldest h) (oldest h + d - 1)) + owned extent g phase = owned-first extent d h phase (omega arith) (λ e lt. same e (omega arith)) in
    let one : owned extent g phase ≡ f (oldest h + d) + owned extent (given_up (suc d) h) phase =
    owned-given_up extent g phase (omega arith) (subst (λ j. closed_volume h phase j ≡ closed_volume h Settled j) (sym at) (same d (omega arith)))
    ∙ (λ k. f (at k) + owned extent (again d h k) phase) in
    let sums : sum_by f (numbers (oldest h) (oldest h + suc d - 1)) ≡ sum_by f (numbers (oldest h) (oldest h + d - 1)) + f (oldest h + d) =
    ap (λ b. sum_by f (numbers (oldest h) b)) top ∙ sum_by-numbers_suc f f (oldest h) (oldest h + d - 1) (omega arith) (λ v low high. refl) ∙ ap (λ v. sum_by f (numbers (oldest h) (oldest h + d - 1)) + f v) last in
    omega (arith, before, one, sums)

rows-first : (d : ℕ) (h : VersionHistory) (phase : Phase) (j : ℕ) → oldest h + suc d ≤ j → rows (given_up (suc d) h) phase j ≡ rows_to (oldest h + suc d) (rows h phase j)
rows-first zero h phase j le = rows-given_up h phase j (omega arith)
rows-first (suc d) h phase j le =
    let g : VersionHistory = given_up (suc d) h in
    let at : oldest g + 1 ≡ oldest h + suc (suc d) = omega arith in
    ap (λ t. rows t phase j) (sym (again (suc d) h))
    ∙ rows-given_up g phase j (omega arith)
    ∙ ap (rows_to (oldest g + 1)) (rows-first d h phase j (omega arith))
    ∙ ap (λ r. rows_to r (rows_to (oldest h + suc d) (rows h phase j))) at
    ∙ rows_in_turn (oldest h + suc d) (oldest h + suc (suc d)) (omega arith) (rows h phase j)

-- a volume that isn't the newest closed one is the same in every phase
early_volume : (h : VersionHistory) (phase : Phase) (j : ℕ) → j + 1 < newest h → closed_volume h phase j ≡ closed_volume h Settled j
early_volume h phase j early =
    let closed : nat_lt (j + 1) (newest h) ≡ true = lt-ltb (j + 1) (newest h) early in
    let full : (p : Phase) (i : ℕ) → is_closed h p j i ≡ true = λ p i k. closed k || (nat_eq (j + 1) (newest h) && is_arranged p i) in
    ap (flat_map (λ i. category h i j)) (filter-same (λ i. full phase i ∙ sym (full Settled i)) refl)

reserve_left-given_up : (extent d : ℕ) (h : VersionHistory) (phase : Phase) → reserve_left extent (given_up d h) phase ≡ reserve_left extent h phase
unfolding reserve_left
reserve_left-given_up extent d h Settled = refl
reserve_left-given_up extent d h (Waiting cursor) = refl

takes : (d : ℕ) (h : VersionHistory) (phase : Phase) → 1 ≤ d → d < retained h → ((e : ℕ) → e < d → closed_volume h phase (oldest h + e) ≡ closed_volume h Settled (oldest h + e)) → TakesOnlyTheFirst d h phase
takes zero h phase some more same = absurd (omega (arith, some))
takes (suc d) h phase some more same = record {
  extents = λ extent. owned-first extent (suc d) h phase more same;
  reserve = λ extent. reserve_left-given_up extent (suc d) h phase;
  oldest_next = omega arith;
  recipes = λ v. refl;
  volumes = λ j. refl;
  categories = λ i. refl;
  rows = rows-first d h phase;
}

pub nothing_owned : (extent base : ℕ) → owned extent (no_versions base) Settled ≡ 0
unfolding owned
nothing_owned extent base =
    let recipes : numbers (base + 0 + 1) (base + 0) ≡ [] = numbers-none _ _ (omega arith) in
    let volumes : numbers (base + 0 + 1) (base + 0 - 1) ≡ [] = numbers-none _ _ (omega arith) in
    let opens : numbers (base + 1) (base + 0) ≡ [] = numbers-none _ _ (omega arith) in
    let h = no_versions base in
    λ k. sum_by (λ v. up extent (recipe_bytes (version h v))) (recipes k)
    + sum_by (λ j. up extent (record_bytes (closed_volume h Settled j))) (volumes k)
    + sum_by (λ i. up extent (record_bytes (open_category h Settled i))) (opens k)

pub giving_up_takes_only_the_first : GivingUpTakesOnlyTheFirst
giving_up_takes_only_the_first = record {
  settled = λ d h some more. takes d h Settled some more (λ e lt. refl);
  waiting = λ d h phase some more. takes d h phase some (omega arith) (λ e lt. early_volume h phase (oldest h + e) (omega arith));
  state = λ shape s d more. ap (λ t. history shape (cond t (emptied s) (fewer_by d s))) (lt-leb (length s.versions) (s.expired + d) (omega (arith, length-history shape s)));
  answer = λ extent d h more. ap (λ t. cond t (owned extent h Settled) (sum_by (dropped_extents extent h) (numbers (oldest h) (oldest h + d - 1)))) (lt-leb (retained h) d more);
  last_answer = λ extent d h few. ap (λ t. cond t (owned extent h Settled) (sum_by (dropped_extents extent h) (numbers (oldest h) (oldest h + d - 1)))) (le-leb (retained h) d few);
  last_state = λ shape s extent d few.
      ap (λ t. owned extent (history shape (cond t (emptied s) (fewer_by d s))) Settled) (le-leb (length s.versions) (s.expired + d) (omega (arith, length-history shape s)))
      ∙ nothing_owned extent (s.base + length s.versions);
}
