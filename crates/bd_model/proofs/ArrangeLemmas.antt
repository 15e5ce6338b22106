-- One step of arranging changes one category and the newest closed volume, and the last one settles the store.
use Rattle.std.proofs.Common.{◌≡◌, ◌≢◌, ℕ, zero, suc, not, ◌++◌, add-zero, find, Some, None, ◌+◌, ◌-◌, ◌<◌, ◌≤◌, max, Bool, true, false, cond, ◌&&◌, ◌||◌, List, [], refl, sym, ◌∙◌, ap, arith, filter, nat_eq, nat_lt, lt-ltb, length, subst, ⊎_elim}
use Rattle.std.proofs.lemmas.Bool.{ne_eqb, cases_lt, eqb-true, eqb-false}
use Rattle.std.proofs.lemmas.List.{append-nil}
use Rattle.std.specs.List.{flat_map, range_with_len}
use Rattle.bd_model.specs.Chunks.{numbers}
use Rattle.bd_model.specs.History.{VersionHistory, newest, oldest, contains}
use Rattle.bd_model.specs.Category.{category, living}
use Rattle.bd_model.specs.declared.layout.Phase.{Phase}
use Rattle.bd_model.specs.declared.layout.Phase.TheVariants.{Settled, Waiting}
use Rattle.bd_model.specs.Layout.{closed_volume, open_category, is_arranged, is_closed, recorded_as, row_chunks, rows}
use Rattle.bd_model.specs.Room.{archived}
use Rattle.bd_model.specs.Step.{next_start}
use Rattle.bd_model.specs.Laws.{rows_with, grown, ArrangesOne, SameLayout, OneStepOfArranging}
use Rattle.bd_model.proofs.ListLemmas.{filter-numbers}
use Rattle.bd_model.proofs.HistoryLemmas.{newest-grown}
use Rattle.bd_model.proofs.LayoutLemmas.{closed_volume-step, open_category-waiting, open_category-arranged, open_category-fresh}
use Rattle.bd_model.proofs.RowLemmas.{no_chunks, rows-step, rows-end, rows_over, rows_over-same, recorded_as-numbers, one_more}

none_some : (n : ℕ) → None ≡ Some n → ⊥
none_some n e = cc

-- what is found in a range is its first number that passes
find_first : (p : ℕ → Bool) (a n i : ℕ) → find p (range_with_len a n) ≡ Some i → (a ≤ i) × (i < a + n) × ((j : ℕ) → a ≤ j → j < i → p j ≡ false)
find_first p a zero i = λ e. absurd (none_some i e)
find_first p a (suc n) i =
    elim (p a) as (λ t. p a ≡ t → cond t (Some a) (find p (range_with_len (a + 1) n)) ≡ Some i → (a ≤ i) × (i < a + suc n) × ((j : ℕ) → a ≤ j → j < i → p j ≡ false)) [
      | true ↦ λ e f. let same : a ≡ i = cc in (omega arith, omega arith, λ j low high. absurd (omega arith))
      | false ↦ λ e f.
          let rest = find_first p (a + 1) n i f in
          (omega (arith, rest.0), omega (arith, rest.1), λ j low high. ⊎_elim (λ less. rest.2 j (omega arith) high) (λ le. let same : a ≡ j = omega arith in subst (λ v. p v ≡ false) same e) (cases_lt a j))
    ] refl

find_none : (p : ℕ → Bool) (a n : ℕ) → find p (range_with_len a n) ≡ None → (j : ℕ) → a ≤ j → j < a + n → p j ≡ false
find_none p a zero = λ e j low high. absurd (omega arith)
find_none p a (suc n) =
    elim (p a) as (λ t. p a ≡ t → cond t (Some a) (find p (range_with_len (a + 1) n)) ≡ None → (j : ℕ) → a ≤ j → j < a + suc n → p j ≡ false) [
      | true ↦ λ e f j low high. absurd (none_some a (sym f))
      | false ↦ λ e f j low high. ⊎_elim (λ less. find_none p (a + 1) n f j (omega arith) (omega arith)) (λ le. let same : a ≡ j = omega arith in subst (λ v. p v ≡ false) same e) (cases_lt a j)
    ] refl

module _ (h : VersionHistory) (w : List (List ℕ)) where
  abbrev next : VersionHistory
  next = grown h w

  -- in which starts only the newest closed volume depends on the phase
  other_closed : (one other : Phase) (j : ℕ) → j ≢ newest h → (k : ℕ) → is_closed next one j k ≡ is_closed next other j k
  other_closed one other j differs k =
      let not_last : nat_eq (j + 1) (newest next) ≡ false = ne_eqb _ _ (λ e. differs (omega (arith, newest-grown h w))) in
      (λ p. nat_lt (j + 1) (newest next) || (not_last p && is_arranged one k)) ∙ sym (λ p. nat_lt (j + 1) (newest next) || (not_last p && is_arranged other k))

  other_volumes : (one other : Phase) (j : ℕ) → j ≢ newest h → closed_volume next one j ≡ closed_volume next other j
  other_volumes one other j differs = λ p. flat_map (λ i. category next i j) (filter (λ k. other_closed one other j differs k p) (numbers (next.base + 1) j))

  other_rows : (one other : Phase) (j : ℕ) → j ≢ newest h → rows next one j ≡ rows next other j
  other_rows one other j differs =
      λ p. rows_over (λ r. flat_map (λ i. category next i j) (filter (λ k. other_closed one other j differs k p) (recorded_as next r))) (numbers (oldest next) j)

  pub arranges_one : (i : ℕ) → h.base + 1 ≤ i → i ≤ newest h → h.expired < length h.versions → ArrangesOne h w i
  arranges_one i low high some = record {
    volume = closed_volume-step h w i (omega arith) high;
    rows_grow = rows-step h w i (omega arith) high some;
    rows_end = rows-end h w i;
    before = open_category-waiting h w i i (omega arith) high;
    category = open_category-arranged h w (i + 1) i (omega arith) high;
    other_categories = λ k other. ap (λ t. living next k (cond t (newest next) (max k (newest next - 1)))) (one_more k i other);
    other_volumes = other_volumes (Waiting (i + 1)) (Waiting i);
    other_rows = other_rows (Waiting (i + 1)) (Waiting i);
  }

  by_newest : (j : ℕ) (X : Type 0) → (j ≡ newest h → X) → (j ≢ newest h → X) → X
  by_newest j X same differs =
      elim (nat_eq j (newest h)) as (λ t. nat_eq j (newest h) ≡ t → X) [ true ↦ λ e. same (eqb-true j (newest h) e) | false ↦ λ e. differs (eqb-false j (newest h) e) ] refl

  -- where every start is done each category is arranged
  all_arranged : (i : ℕ) → i ≤ newest h → is_closed next (Waiting (newest h + 1)) (newest h) i ≡ is_closed next Settled (newest h) i
  all_arranged i le = ap (λ t. nat_lt (newest h + 1) (newest next) || (nat_eq (newest h + 1) (newest next) && t)) (lt-ltb i (newest h + 1) (omega arith))

  pub all_done : SameLayout next (Waiting (newest h + 1)) Settled
  all_done = record {
    volumes = λ j. by_newest j
        (closed_volume next (Waiting (newest h + 1)) j ≡ closed_volume next Settled j)
        (λ e. subst (λ n. closed_volume next (Waiting (newest h + 1)) n ≡ closed_volume next Settled n) (sym e)
        (ap (flat_map (λ i. category next i (newest h))) (filter-numbers _ _ (h.base + 1) (newest h) (λ i low high. all_arranged i high))))
        (other_volumes (Waiting (newest h + 1)) Settled j);
    rows = λ j. by_newest j
        (rows next (Waiting (newest h + 1)) j ≡ rows next Settled j)
        (λ e. subst (λ n. rows next (Waiting (newest h + 1)) n ≡ rows next Settled n) (sym e)
        (rows_over-same (row_chunks next (Waiting (newest h + 1)) (newest h)) (row_chunks next Settled (newest h)) (oldest h) (newest h + 1 - oldest h) (λ r low high. row r (omega arith))))
        (other_rows (Waiting (newest h + 1)) Settled j);
    categories = λ i le.
        ⊎_elim
        (λ less. ap (λ t. living next i (cond t (newest next) (max i (newest next - 1)))) (lt-ltb i (newest h + 1) less))
        (λ past.
        let own : i ≡ newest h + 1 = omega (arith, newest-grown h w) in
        ap (open_category next (Waiting (newest h + 1))) own ∙ open_category-fresh h w (Waiting (newest h + 1)) ∙ sym (open_category-fresh h w Settled) ∙ ap (open_category next Settled) (sym own))
        (cases_lt i (newest h + 1));
  }
    where
      row : (r : ℕ) → r ≤ newest h → row_chunks next (Waiting (newest h + 1)) (newest h) r ≡ row_chunks next Settled (newest h) r
      row r le =
          let least = cond (nat_eq r (oldest next)) (next.base + 1) r in
          ap (λ is. flat_map (λ i. category next i (newest h)) (filter (is_closed next (Waiting (newest h + 1)) (newest h)) is)) (recorded_as-numbers next r)
          ∙ ap (flat_map (λ i. category next i (newest h))) (filter-numbers _ _ least r (λ i low high. all_arranged i (omega arith)))
          ∙ sym (ap (λ is. flat_map (λ i. category next i (newest h)) (filter (is_closed next Settled (newest h)) is)) (recorded_as-numbers next r))

  same_twice : {one other third : Phase} → SameLayout next one other → SameLayout next other third → SameLayout next one third
  same_twice e f = record { volumes = λ j. e.volumes j ∙ f.volumes j; categories = λ i le. e.categories i le ∙ f.categories i le; rows = λ j. e.rows j ∙ f.rows j }

  -- a start at which no category is open changes nothing
  skip_one : (cursor : ℕ) → h.base + 1 ≤ cursor → cursor ≤ newest h → h.expired < length h.versions → open_category h Settled cursor ≡ [] → SameLayout next (Waiting cursor) (Waiting (cursor + 1))
  skip_one cursor low high some empty =
      let step : ArrangesOne h w cursor = arranges_one cursor low high some in
      let none : archived h w cursor ≡ [] = ap (filter (λ c. not (contains w c))) empty in
      record {
        volumes = λ j. by_newest j
            (closed_volume next (Waiting cursor) j ≡ closed_volume next (Waiting (cursor + 1)) j)
            (λ e. subst (λ n. closed_volume next (Waiting cursor) n ≡ closed_volume next (Waiting (cursor + 1)) n) (sym e)
            (sym (step.volume ∙ ap (λ cs. closed_volume next (Waiting cursor) (newest h) ++ cs) none ∙ append-nil (closed_volume next (Waiting cursor) (newest h)))))
            (other_volumes (Waiting cursor) (Waiting (cursor + 1)) j);
        categories = λ i le.
            elim (nat_eq i cursor) as (λ t. nat_eq i cursor ≡ t → open_category next (Waiting cursor) i ≡ open_category next (Waiting (cursor + 1)) i) [
              | true ↦ λ e.
                  subst (λ n. open_category next (Waiting cursor) n ≡ open_category next (Waiting (cursor + 1)) n) (sym (eqb-true i cursor e))
                  (step.before ∙ empty ∙ sym (step.category ∙ ap (filter (contains w)) empty))
              | false ↦ λ e. sym (step.other_categories i (eqb-false i cursor e))
            ] refl;
        rows = λ j. by_newest j
            (rows next (Waiting cursor) j ≡ rows next (Waiting (cursor + 1)) j)
            (λ e. subst (λ n. rows next (Waiting cursor) n ≡ rows next (Waiting (cursor + 1)) n) (sym e)
            (sym (step.rows_grow ∙ ap (λ cs. rows_with (max cursor (oldest h)) cs (rows next (Waiting cursor) (newest h))) none)))
            (other_rows (Waiting cursor) (Waiting (cursor + 1)) j);
      }

  skip_many : (cursor k : ℕ) → h.base + 1 ≤ cursor → cursor + k ≤ newest h + 1 → h.expired < length h.versions → ((j : ℕ) → cursor ≤ j → j < cursor + k → open_category h Settled j ≡ []) →
      SameLayout next (Waiting cursor) (Waiting (cursor + k))
  skip_many cursor zero low high some empty = subst (λ n. SameLayout next (Waiting cursor) (Waiting n)) (sym (add-zero cursor)) (record { volumes = λ j. refl; categories = λ i le. refl; rows = λ j. refl })
  skip_many cursor (suc k) low high some empty =
      let same : cursor + 1 + k ≡ cursor + suc k = omega arith in
      same_twice (skip_one cursor low (omega arith) some (empty cursor (omega arith) (omega arith)))
      (subst (λ n. SameLayout next (Waiting (cursor + 1)) (Waiting n)) same (skip_many (cursor + 1) k (omega arith) (omega arith) some (λ j from to. empty j (omega arith) (omega arith))))

  abbrev is_next : ℕ → ℕ → Bool
  is_next cursor i = nat_lt 0 (length (open_category next (Waiting cursor) i))

  not_next : (cursor j : ℕ) → cursor ≤ j → j ≤ newest h → is_next cursor j ≡ false → open_category h Settled j ≡ []
  not_next cursor j from to e = sym (open_category-waiting h w cursor j from to) ∙ no_chunks (open_category next (Waiting cursor) j) e

  skipped : (cursor i : ℕ) → h.base + 1 ≤ cursor → h.expired < length h.versions → next_start next cursor ≡ Some i → (cursor ≤ i) × (i ≤ newest h) × SameLayout next (Waiting cursor) (Waiting i)
  skipped cursor i low some e =
      let first = find_first (is_next cursor) cursor (newest next - 1 + 1 - cursor) i e in
      let high : i ≤ newest h = omega (arith, newest-grown h w, first.0, first.1) in
      let from : cursor ≤ i = first.0 in
      let same : cursor + (i - cursor) ≡ i = omega arith in
      (first.0, high, subst (λ n. SameLayout next (Waiting cursor) (Waiting n)) same (skip_many cursor (i - cursor) low (omega arith) some (λ j above below. not_next cursor j above (omega arith) (first.2 j above (omega arith)))))

  done : (cursor : ℕ) → h.base + 1 ≤ cursor → cursor ≤ newest h + 1 → h.expired < length h.versions → next_start next cursor ≡ None → SameLayout next (Waiting cursor) Settled
  done cursor low high some e =
      let same : cursor + (newest h + 1 - cursor) ≡ newest h + 1 = omega arith in
      let none = find_none (is_next cursor) cursor (newest next - 1 + 1 - cursor) e in
      same_twice
      (subst (λ n. SameLayout next (Waiting cursor) (Waiting n)) same
      (skip_many cursor (newest h + 1 - cursor) low (omega arith) some (λ j above below. not_next cursor j above (omega arith) (none j above (omega (arith, newest-grown h w, above, below))))))
      all_done

pub one_step_of_arranging : OneStepOfArranging
one_step_of_arranging = record { each = arranges_one; skipped = skipped; done = done }
