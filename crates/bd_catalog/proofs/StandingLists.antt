-- Lists of entries and rows with one more at the end, and the rows of a history with a version more.
use Rattle.std.proofs.Common.{◌≡◌, ⊎_elim, ℕ, zero, suc, ◌+◌, ◌-◌, ◌<◌, ◌≤◌, Bool, true, false, cond, ◌||◌, ◌&&◌, List, [], ◌∷◌, ◌++◌, length, refl, sym, ◌∙◌, ap, arith, filter, map, nat_eq, nat_lt, lt-ltb, le-ltb, eq-eqb, sum_by, flat_map, add-zero}
use Rattle.std.specs.List.{range_with_len}
use Rattle.std.proofs.lemmas.Bool.{ne_eqb, cases_lt, ltb-true}
use Rattle.std.proofs.lemmas.List.{map-append}
use Rattle.std.proofs.lemmas.List.Sums.{sum_by-cons}
use Rattle.std.proofs.lemmas.List.Elements.{filter-append}
use Rattle.bd_model.specs.Chunks.{numbers}
use Rattle.bd_model.specs.History.{VersionHistory, newest, oldest}
use Rattle.bd_model.specs.Category.{category}
use Rattle.bd_model.specs.Layout.{closed_volume, is_closed, is_arranged, row_chunks, row_of, rows}
use Rattle.bd_model.specs.Laws.{grown}
use Rattle.bd_model.specs.Room.{archived}
use Rattle.bd_model.specs.declared.layout.CategoryRow.{CategoryRow}
use Rattle.bd_model.specs.declared.layout.Phase.{Phase}
use Rattle.bd_model.specs.declared.layout.Phase.TheVariants.{Settled, Waiting}
use Rattle.bd_model.proofs.HistoryLemmas.{newest-grown}
use Rattle.bd_model.proofs.ListLemmas.{filter-all, filter-numbers_none, flat_map-numbers, or-true}
use Rattle.bd_model.proofs.CategoryLemmas.{category-earlier}
use Rattle.bd_model.proofs.LawLemmas.{closed_volumes_grow}
use Rattle.bd_model.proofs.RowLemmas.{rows_over, rows_over-same, recorded_as-numbers, rows_describe_the_volume}
use Rattle.bd_roll.specs.Catalogue.{VersionEntry}
use Rattle.bd_catalog.specs.Standing.{lines_from, line_of}

pub lines_from-push : (v : ℕ) (es : List VersionEntry) (e : VersionEntry) → lines_from v (es ++ e ∷ []) ≡ lines_from v es ++ line_of (v + length es) e ∷ []
lines_from-push v [] e = ap (λ n. line_of n e ∷ []) (sym (add-zero v))
lines_from-push v (d ∷ es) e =
    let same : v + 1 + length es ≡ v + suc (length es) = omega arith in
    ap (λ ls. line_of v d ∷ ls) (lines_from-push (v + 1) es e ∙ ap (λ n. lines_from (v + 1) es ++ line_of n e ∷ []) same)

pub map-range_with_len : {X : Type 0} (f g : ℕ → X) (a n : ℕ) → ((v : ℕ) → a ≤ v → v < a + n → f v ≡ g v) → map f (range_with_len a n) ≡ map g (range_with_len a n)
map-range_with_len f g a zero agree = refl
map-range_with_len f g a (suc n) agree =
    let tail = map-range_with_len f g (a + 1) n (λ v low high. agree v (omega arith) (omega arith)) in
    λ k. agree a (omega arith) (omega arith) k ∷ tail k

-- functions that agree on the numbers of a range
pub map-numbers : {X : Type 0} (f g : ℕ → X) (a b : ℕ) → ((v : ℕ) → a ≤ v → v ≤ b → f v ≡ g v) → map f (numbers a b) ≡ map g (numbers a b)
map-numbers f g a b agree = map-range_with_len f g a (b + 1 - a) (λ v low high. agree v low (omega arith))

pub rows_over-push : (f : ℕ → List (List ℕ)) (starts : List ℕ) (r : ℕ) → rows_over f (starts ++ r ∷ []) ≡ rows_over f starts ++ cond (nat_lt 0 (length (f r))) (row_of r (f r) ∷ []) []
rows_over-push f starts r =
    let F : ℕ → CategoryRow = λ i. row_of i (f i) in
    let some : CategoryRow → Bool = λ row. nat_lt 0 row.chunks in
    ap (filter some) (map-append F starts (r ∷ [])) ∙ filter-append some (map F starts) (F r ∷ [])

-- no row has a start past the range
pub rows_over-past : (f : ℕ → List (List ℕ)) (v a n : ℕ) → a + n ≤ v → filter (λ row. nat_eq row.start v) (rows_over f (range_with_len a n)) ≡ []
rows_over-past f v a zero past = refl
rows_over-past f v a (suc n) past =
    let other : nat_eq a v ≡ false = ne_eqb a v (λ e. absurd (omega arith)) in
    let rest = rows_over f (range_with_len (a + 1) n) in
    let tail : filter (λ row. nat_eq row.start v) rest ≡ [] = rows_over-past f v (a + 1) n (omega arith) in
    elim (nat_lt 0 (length (f a))) as (λ t. filter (λ row. nat_eq row.start v) (cond t (row_of a (f a) ∷ rest) rest) ≡ []) [
      | true ↦ ap (λ t. cond t (row_of a (f a) ∷ filter (λ row. nat_eq row.start v) rest) (filter (λ row. nat_eq row.start v) rest)) other ∙ tail
      | false ↦ tail
    ]

-- elements of which none passes after a map
pub filter-map_none : {X Y : Type 0} (f : X → Y) (p : Y → Bool) (xs : List X) → filter p (map f xs) ≡ [] → filter (λ x. p (f x)) xs ≡ []
filter-map_none f p [] = λ none. refl
filter-map_none f p (x ∷ xs) =
    elim (p (f x)) as (λ t. cond t (f x ∷ filter p (map f xs)) (filter p (map f xs)) ≡ [] → cond t (x ∷ filter (λ y. p (f y)) xs) (filter (λ y. p (f y)) xs) ≡ []) [
      | true ↦ λ e. absurd (no_nil (ap length e))
      | false ↦ λ e. filter-map_none f p xs e
    ]
  where
    no_nil : {n : ℕ} → suc n ≡ 0 → ⊥
    no_nil e = omega arith

-- rows with chunks of which there are none
pub rows_over-none : (f : ℕ → List (List ℕ)) (starts : List ℕ) → sum_by (λ row. row.chunks) (rows_over f starts) ≡ 0 → rows_over f starts ≡ []
rows_over-none f [] = λ none. refl
rows_over-none f (r ∷ starts) =
    let rest = rows_over f starts in
    elim (nat_lt 0 (length (f r))) as (λ t. nat_lt 0 (length (f r)) ≡ t → sum_by (λ row. row.chunks) (cond t (row_of r (f r) ∷ rest) rest) ≡ 0 → cond t (row_of r (f r) ∷ rest) rest ≡ []) [
      | true ↦ λ e none. absurd (omega (arith, none, sum_by-cons (λ (row : CategoryRow). row.chunks) (row_of r (f r)) rest, ltb-true 0 (length (f r)) e))
      | false ↦ λ e none. rows_over-none f starts none
    ] refl

module _ (h : VersionHistory) (w : List (List ℕ)) where
  row_chunks-earlier : (phase : Phase) (j r : ℕ) → r ≤ j → j < newest h → row_chunks (grown h w) phase j r ≡ row_chunks h Settled j r
  row_chunks-earlier phase j r le lt =
      let closed : nat_lt (j + 1) (newest (grown h w)) ≡ true = lt-ltb (j + 1) (newest (grown h w)) (omega (arith, newest-grown h w)) in
      let least = cond (nat_eq r (oldest h)) (h.base + 1) r in
      ap (λ is. flat_map (λ i. category (grown h w) i j) (filter (is_closed (grown h w) phase j) is)) (recorded_as-numbers h r)
      ∙ ap (flat_map (λ i. category (grown h w) i j)) (filter-all _ (λ i k. closed k || (nat_eq (j + 1) (newest (grown h w)) && is_arranged phase i)) (numbers least r))
      ∙ flat_map-numbers _ _ least r (λ i low high. category-earlier h w i j (omega arith) lt)
      ∙ sym (ap (flat_map (λ i. category h i j)) (filter-all _ settled (numbers least r)))
      ∙ sym (ap (λ is. flat_map (λ i. category h i j) (filter (is_closed h Settled j) is)) (recorded_as-numbers h r))
    where
      settled : (i : ℕ) → is_closed h Settled j i ≡ true
      settled i =
          ⊎_elim
          (λ less k. lt-ltb (j + 1) (newest h) less k || (nat_eq (j + 1) (newest h) && true))
          (λ last. let same : nat_eq (j + 1) (newest h) ≡ true = eq-eqb (j + 1) (newest h) (omega arith) in (λ k. nat_lt (j + 1) (newest h) || (same k && true)) ∙ or-true (nat_lt (j + 1) (newest h)))
          (cases_lt (j + 1) (newest h))

  -- a new version leaves the rows of the closed volumes
  pub rows-earlier : (phase : Phase) (j : ℕ) → oldest h ≤ j → j < newest h → rows (grown h w) phase j ≡ rows h Settled j
  rows-earlier phase j low lt = rows_over-same (row_chunks (grown h w) phase j) (row_chunks h Settled j) (oldest h) (j + 1 - oldest h) (λ r from to. row_chunks-earlier phase j r (omega arith) lt)

  -- the newest closed volume is empty before arranging
  pub newest_volume-empty : closed_volume (grown h w) (Waiting (h.base + 1)) (newest h) ≡ []
  newest_volume-empty =
      closed_volumes_grow.newest_volume h w (Waiting (h.base + 1))
      ∙ ap (flat_map (archived h w)) (filter-numbers_none _ _ _ (λ i low high. le-ltb i (h.base + 1) low))

  -- and has no row
  pub newest_rows-empty : oldest h ≤ newest h → rows (grown h w) (Waiting (h.base + 1)) (newest h) ≡ []
  newest_rows-empty le =
      let g = grown h w in
      let phase = Waiting (h.base + 1) in
      rows_over-none (row_chunks g phase (newest h)) (numbers (oldest h) (newest h))
      (rows_describe_the_volume.chunks g phase (newest h) le ∙ ap length newest_volume-empty)
