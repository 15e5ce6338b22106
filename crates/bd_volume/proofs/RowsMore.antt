-- The rows of a volume once records came behind the others.
use Rattle.std.proofs.Common.{◌≡◌, ◌≢◌, ℕ, zero, suc, ◌+◌, ◌*◌, ◌^◌, ◌<◌, ◌≤◌, true, false, cond, ◌&&◌, List, [], ◌∷◌, ◌++◌, length, get_or, refl, ◌∙◌, ap, arith, lt-ltb, sum_by, eq-eqb}
use Rattle.std.specs.Prelude.{All, ◌==◌, nat_le}
use Rattle.std.specs.List.{list_all}
use Rattle.std.specs.List.Sorted.{IsStrictlyIncreasing}
use Rattle.std.proofs.Math.Nat.{mul-add, mul-le-mul_right}
use Rattle.std.specs.Cmp.Derive.{both_true}
use Rattle.std.proofs.lemmas.Bool.{eqb-false, leb-true, le-leb, ltb-true, ne_eqb}
use Rattle.std.proofs.lemmas.List.Elements.{All-head, All-tail}
use Rattle.std.proofs.lemmas.List.Sums.{sum_by-cons}
use Rattle.bd_model.specs.declared.layout.CategoryRow.{CategoryRow}
use Rattle.bd_model.specs.Laws.{rows_more}
use Rattle.bd_model.specs.Sizes.{Sizes}
use Rattle.bd_model.proofs.ListLemmas.{left_and, right_and}
use Rattle.bd_roll.specs.Catalogue.{bytes_of_rows, row_starts}
use Rattle.bd_roll.specs.Rules.{fits_eight, row_holds}
use Rattle.bd_volume.specs.Growing.{AreCounted}

module _ (r chunks bytes : ℕ) where
  abbrev more : List CategoryRow → List CategoryRow
  more rows = rows_more r chunks bytes rows

  -- only the last row counts
  pub rows_more-push : (xs : List CategoryRow) (x : CategoryRow) → more (xs ++ x ∷ []) ≡ xs ++ more (x ∷ [])
  rows_more-push [] x = refl
  rows_more-push (y ∷ []) x = refl
  rows_more-push (y ∷ z ∷ zs) x = ap (λ rows. y ∷ rows) (rows_more-push (z ∷ zs) x)

  -- it gets longer, or a new row follows it
  pub longer_row : (row : CategoryRow) → row.start ≡ r → more (row ∷ []) ≡ record { start = r; chunks = row.chunks + chunks; bytes = row.bytes + bytes } ∷ []
  longer_row row is =
      ap (λ t. cond t (record { start = row.start; chunks = row.chunks + chunks; bytes = row.bytes + bytes } ∷ []) (row ∷ record { start = r; chunks = chunks; bytes = bytes } ∷ [])) (eq-eqb row.start r is)
      ∙ ap (λ n. record { start = n; chunks = row.chunks + chunks; bytes = row.bytes + bytes } ∷ []) is

  pub next_row : (row : CategoryRow) → row.start ≢ r → more (row ∷ []) ≡ row ∷ record { start = r; chunks = chunks; bytes = bytes } ∷ []
  next_row row differs =
      ap (λ t. cond t (record { start = row.start; chunks = row.chunks + chunks; bytes = row.bytes + bytes } ∷ []) (row ∷ record { start = r; chunks = chunks; bytes = bytes } ∷ [])) (ne_eqb row.start r differs)

  -- the bytes of all
  pub bytes-rows_more : (rows : List CategoryRow) → bytes_of_rows (more rows) ≡ bytes_of_rows rows + bytes
  bytes-rows_more [] = omega arith
  bytes-rows_more (row ∷ []) =
      elim (row.start == r) as (λ t. bytes_of_rows (cond t (record { start = row.start; chunks = row.chunks + chunks; bytes = row.bytes + bytes } ∷ []) (row ∷ record { start = r; chunks = chunks; bytes = bytes } ∷ [])) ≡ bytes_of_rows (row ∷ []) + bytes) [
        | true ↦ omega arith
        | false ↦ omega arith
      ]
  bytes-rows_more (row ∷ second ∷ rows) =
      omega (arith, bytes-rows_more (second ∷ rows), sum_by-cons (λ (x : CategoryRow). x.bytes) row (second ∷ rows), sum_by-cons (λ (x : CategoryRow). x.bytes) row (more (second ∷ rows)))

-- ---- ascending starts

IsStrictlyIncreasing-cons : (x : ℕ) (ns : List ℕ) → (0 < length ns → x < get_or ns 0 0) → IsStrictlyIncreasing ns → IsStrictlyIncreasing (x ∷ ns)
IsStrictlyIncreasing-cons x ns first rest zero lt = first (omega (arith, lt))
IsStrictlyIncreasing-cons x ns first rest (suc k) lt =
    let next : suc k + 1 ≡ suc (k + 1) = omega arith in
    omega (arith, rest k (omega (arith, lt)), ap (λ m. get_or (x ∷ ns) m 0) next)

IsStrictlyIncreasing-tail : (x : ℕ) (ns : List ℕ) → IsStrictlyIncreasing (x ∷ ns) → IsStrictlyIncreasing ns
IsStrictlyIncreasing-tail x ns rise k lt =
    let next : suc k + 1 ≡ suc (k + 1) = omega arith in
    omega (arith, rise (suc k) (omega (arith, lt)), ap (λ m. get_or (x ∷ ns) m 0) next)

IsStrictlyIncreasing-one : (x : ℕ) → IsStrictlyIncreasing (x ∷ [])
IsStrictlyIncreasing-one x k lt = absurd (omega (arith, lt))

module _ (r chunks bytes : ℕ) where
  -- the first row begins where it did
  first_start : (row : CategoryRow) (rows : List CategoryRow) → get_or (row_starts (rows_more r chunks bytes (row ∷ rows))) 0 0 ≡ row.start
  first_start row [] =
      elim (row.start == r) as (λ t. get_or (row_starts (cond t (record { start = row.start; chunks = row.chunks + chunks; bytes = row.bytes + bytes } ∷ []) (row ∷ record { start = r; chunks = chunks; bytes = bytes } ∷ []))) 0 0 ≡ row.start) [
        | true ↦ refl
        | false ↦ refl
      ]
  first_start row (second ∷ rows) = refl

  pub rows_more-ascend : (rows : List CategoryRow) → All (λ row. row.start ≤ r) rows → IsStrictlyIncreasing (row_starts rows) → IsStrictlyIncreasing (row_starts (rows_more r chunks bytes rows))
  rows_more-ascend [] order rise = IsStrictlyIncreasing-one r
  rows_more-ascend (row ∷ []) order rise =
      let low : row.start ≤ r = All-head (λ (x : CategoryRow). x.start ≤ r) row [] order in
      elim (row.start == r) as (λ t. (row.start == r) ≡ t → IsStrictlyIncreasing (row_starts (cond t (record { start = row.start; chunks = row.chunks + chunks; bytes = row.bytes + bytes } ∷ []) (row ∷ record { start = r; chunks = chunks; bytes = bytes } ∷ [])))) [
        | true ↦ λ same. IsStrictlyIncreasing-one row.start
        | false ↦ λ differs. IsStrictlyIncreasing-cons row.start (r ∷ []) (λ some. omega (arith, low, eqb-false row.start r differs)) (IsStrictlyIncreasing-one r)
      ] refl
  rows_more-ascend (row ∷ second ∷ rows) order rise =
      IsStrictlyIncreasing-cons row.start (row_starts (rows_more r chunks bytes (second ∷ rows)))
      (λ some. omega (arith, first_start second rows, rise 0 (omega arith)))
      (rows_more-ascend (second ∷ rows) (All-tail (λ (x : CategoryRow). x.start ≤ r) row (second ∷ rows) order) (IsStrictlyIncreasing-tail row.start (row_starts (second ∷ rows)) rise))

-- ---- the rules

-- a row that obeys the rules, fact by fact
record Holds (s : Sizes) (row : CategoryRow) : Type 0 where
  pub counted : AreCounted s row.chunks row.bytes
  pub fits : (36 + s.max) * row.chunks < 2 ^ 64

holds : (s : Sizes) (row : CategoryRow) → row_holds s row ≡ true → Holds s row
holds s row is =
    let one = nat_le 1 row.chunks in
    let low = nat_le (37 * row.chunks) row.bytes in
    let high = nat_le row.bytes ((36 + s.max) * row.chunks) in
    let fits = fits_eight ((36 + s.max) * row.chunks) in
    record {
      counted = record {
        some = leb-true 1 row.chunks (left_and one low (left_and (one && low) high (left_and (one && low && high) fits is)));
        low = leb-true (37 * row.chunks) row.bytes (right_and one low (left_and (one && low) high (left_and (one && low && high) fits is)));
        high = leb-true row.bytes ((36 + s.max) * row.chunks) (right_and (one && low) high (left_and (one && low && high) fits is));
      };
      fits = ltb-true ((36 + s.max) * row.chunks) (2 ^ 64) (right_and (one && low && high) fits is);
    }

-- records of few bytes are few
few_fit : (s : Sizes) (chunks bytes : ℕ) → s.max ≤ 65536 → AreCounted s chunks bytes → bytes < 2 ^ 42 → (36 + s.max) * chunks < 2 ^ 64
few_fit s chunks bytes short counted small = omega (arith, mul-le-mul_right {m = 36 + s.max} {n = 65572} chunks (omega (arith, short)), counted.low, small)

holds_again : (s : Sizes) (row : CategoryRow) → Holds s row → row_holds s row ≡ true
holds_again s row h =
    both_true (both_true (both_true (le-leb 1 row.chunks h.counted.some) (le-leb (37 * row.chunks) row.bytes h.counted.low)) (le-leb row.bytes ((36 + s.max) * row.chunks) h.counted.high)) (lt-ltb ((36 + s.max) * row.chunks) (2 ^ 64) h.fits)

both_counted : (s : Sizes) (some more low high : ℕ) → AreCounted s some low → AreCounted s more high → AreCounted s (some + more) (low + high)
both_counted s some more low high first second = record {
  some = omega (arith, first.some);
  low = omega (arith, first.low, second.low);
  high = omega (arith, first.high, second.high, mul-add (36 + s.max) some more);
}

module _ (s : Sizes) (short : s.max ≤ 65536) (r chunks bytes : ℕ) (counted : AreCounted s chunks bytes) where
  new_holds : bytes < 2 ^ 42 → row_holds s (record { start = r; chunks = chunks; bytes = bytes }) ≡ true
  new_holds small = holds_again s (record { start = r; chunks = chunks; bytes = bytes }) (record { counted = counted; fits = few_fit s chunks bytes short counted small })

  longer_holds : (row : CategoryRow) → row.bytes + bytes < 2 ^ 42 → row_holds s row ≡ true → row_holds s (record { start = row.start; chunks = row.chunks + chunks; bytes = row.bytes + bytes }) ≡ true
  longer_holds row small is =
      let all = both_counted s row.chunks chunks row.bytes bytes (holds s row is).counted counted in
      holds_again s (record { start = row.start; chunks = row.chunks + chunks; bytes = row.bytes + bytes }) (record { counted = all; fits = few_fit s (row.chunks + chunks) (row.bytes + bytes) short all small })

  pub rows_more-hold : (rows : List CategoryRow) → bytes_of_rows rows + bytes < 2 ^ 42 → list_all (row_holds s) rows ≡ true → list_all (row_holds s) (rows_more r chunks bytes rows) ≡ true
  rows_more-hold [] small all = both_true (new_holds (omega (arith, small))) refl
  rows_more-hold (row ∷ []) small all =
      let here : row_holds s row ≡ true = left_and (row_holds s row) true all in
      elim (row.start == r) as (λ t. list_all (row_holds s) (cond t (record { start = row.start; chunks = row.chunks + chunks; bytes = row.bytes + bytes } ∷ []) (row ∷ record { start = r; chunks = chunks; bytes = bytes } ∷ [])) ≡ true) [
        | true ↦ both_true (longer_holds row (omega (arith, small)) here) refl
        | false ↦ both_true here (both_true (new_holds (omega (arith, small))) refl)
      ]
  rows_more-hold (row ∷ second ∷ rows) small all =
      both_true (left_and (row_holds s row) (list_all (row_holds s) (second ∷ rows)) all)
      (rows_more-hold (second ∷ rows) (omega (arith, small, sum_by-cons (λ (x : CategoryRow). x.bytes) row (second ∷ rows))) (right_and (row_holds s row) (list_all (row_holds s) (second ∷ rows)) all))

-- there are no more records than bytes
pub chunks_few : (s : Sizes) (rows : List CategoryRow) → list_all (row_holds s) rows ≡ true → sum_by (λ row. row.chunks) rows ≤ bytes_of_rows rows
chunks_few s [] all = omega arith
chunks_few s (row ∷ rows) all =
    let here = holds s row (left_and (row_holds s row) (list_all (row_holds s) rows) all) in
    omega (arith, here.counted.low, chunks_few s rows (right_and (row_holds s row) (list_all (row_holds s) rows) all), sum_by-cons (λ (x : CategoryRow). x.chunks) row rows, sum_by-cons (λ (x : CategoryRow). x.bytes) row rows)
