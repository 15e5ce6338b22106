-- The rows of a volume once records came behind the others twice.
use Rattle.std.proofs.Common.{◌≡◌, ℕ, zero, suc, ◌+◌, ◌≤◌, true, false, cond, List, [], ◌∷◌, length, max, refl, sym, ◌∙◌, ap, arith}
use Rattle.std.specs.Prelude.{All, ◌==◌}
use Rattle.std.proofs.lemmas.List.Elements.{All-cons, All-head, All-nil, All-tail}
use Rattle.bd_model.specs.Laws.{rows_more}
use Rattle.bd_model.specs.declared.layout.CategoryRow.{CategoryRow}
use Rattle.bd_roll.specs.Catalogue.{bytes_of_rows}
use Rattle.bd_volume.specs.Filled.{Filled}
use Rattle.bd_volume.specs.Growing.{NoneLater}
use Rattle.bd_volume.proofs.RowsMore.{bytes-rows_more, longer_row}
use Rattle.bd_arrange.specs.Moving.{rows_then}

module _ (r c b d e : ℕ) where
  -- the last row is what counts, and there is one
  more-cons : (chunks bytes : ℕ) (row : CategoryRow) (rows : List CategoryRow) → 1 ≤ length rows → rows_more r chunks bytes (row ∷ rows) ≡ row ∷ rows_more r chunks bytes rows
  more-cons chunks bytes row [] some = absurd (omega (arith, some))
  more-cons chunks bytes row (second ∷ rows) some = refl

  more-some : (rows : List CategoryRow) → 1 ≤ length (rows_more r c b rows)
  more-some [] = omega arith
  more-some (row ∷ []) =
      elim (row.start == r) as (λ t. 1 ≤ length (cond t (record { start = row.start; chunks = row.chunks + c; bytes = row.bytes + b } ∷ []) (row ∷ record { start = r; chunks = c; bytes = b } ∷ []))) [
        | true ↦ omega arith
        | false ↦ omega arith
      ]
  more-some (row ∷ second ∷ rows) = omega arith

  -- two times are one time
  pub rows_more-twice : (rows : List CategoryRow) → rows_more r d e (rows_more r c b rows) ≡ rows_more r (c + d) (b + e) rows
  rows_more-twice [] = longer_row r d e (record { start = r; chunks = c; bytes = b }) refl
  rows_more-twice (row ∷ []) =
      elim (row.start == r) as (λ t. (row.start == r) ≡ t → rows_more r d e (cond t (record { start = row.start; chunks = row.chunks + c; bytes = row.bytes + b } ∷ []) (row ∷ record { start = r; chunks = c; bytes = b } ∷ []))
      ≡ cond t (record { start = row.start; chunks = row.chunks + (c + d); bytes = row.bytes + (b + e) } ∷ []) (row ∷ record { start = r; chunks = c + d; bytes = b + e } ∷ [])) [
        | true ↦ λ same.
            let chunks : row.chunks + c + d ≡ row.chunks + (c + d) = omega arith in
            let bytes : row.bytes + b + e ≡ row.bytes + (b + e) = omega arith in
            ap (λ t. cond t (record { start = row.start; chunks = row.chunks + c + d; bytes = row.bytes + b + e } ∷ []) (record { start = row.start; chunks = row.chunks + c; bytes = row.bytes + b } ∷ record { start = r; chunks = d; bytes = e } ∷ [])) same
            ∙ (λ i. record { start = row.start; chunks = chunks i; bytes = bytes i } ∷ [])
        | false ↦ λ differs. ap (λ rows. row ∷ rows) (longer_row r d e (record { start = r; chunks = c; bytes = b }) refl)
      ] refl
  rows_more-twice (row ∷ second ∷ rows) = more-cons d e row (rows_more r c b (second ∷ rows)) (more-some (second ∷ rows)) ∙ ap (λ rows. row ∷ rows) (rows_more-twice (second ∷ rows))

-- none of them begins later
pub rows_more-order : (r c b m : ℕ) → r ≤ m → (rows : List CategoryRow) → All (λ row. row.start ≤ m) rows → All (λ row. row.start ≤ m) (rows_more r c b rows)
rows_more-order r c b m le [] all = All-cons (λ (x : CategoryRow). x.start ≤ m) (record { start = r; chunks = c; bytes = b }) [] le (All-nil (λ (x : CategoryRow). x.start ≤ m))
rows_more-order r c b m le (row ∷ []) all =
    let P = λ (x : CategoryRow). x.start ≤ m in
    let here : row.start ≤ m = All-head P row [] all in
    elim (row.start == r) as (λ t. All P (cond t (record { start = row.start; chunks = row.chunks + c; bytes = row.bytes + b } ∷ []) (row ∷ record { start = r; chunks = c; bytes = b } ∷ []))) [
      | true ↦ All-cons P (record { start = row.start; chunks = row.chunks + c; bytes = row.bytes + b }) [] here (All-nil P)
      | false ↦ All-cons P row (record { start = r; chunks = c; bytes = b } ∷ []) here (All-cons P (record { start = r; chunks = c; bytes = b }) [] le (All-nil P))
    ]
rows_more-order r c b m le (row ∷ second ∷ rows) all =
    let P = λ (x : CategoryRow). x.start ≤ m in
    All-cons P row (rows_more r c b (second ∷ rows)) (All-head P row (second ∷ rows) all) (rows_more-order r c b m le (second ∷ rows) (All-tail P row (second ∷ rows) all))

pub rows_then-order : (f : Filled) (start c b : ℕ) → NoneLater f start → All (λ row. row.start ≤ max start f.oldest) (rows_then f start c b)
rows_then-order f start zero b order = order
rows_then-order f start (suc c) b order = rows_more-order (max start f.oldest) (suc c) b (max start f.oldest) (omega arith) f.rows order

pub rows_then-bytes : (f : Filled) (start c b : ℕ) → (c ≡ 0 → b ≡ 0) → bytes_of_rows (rows_then f start c b) ≡ bytes_of_rows f.rows + b
rows_then-bytes f start zero b none = let zero_bytes : b ≡ 0 = none refl in omega arith
rows_then-bytes f start (suc c) b none = bytes-rows_more (max start f.oldest) (suc c) b f.rows

pub rows_then-twice : (f g : Filled) (start c b d e : ℕ) → (c ≡ 0 → b ≡ 0) → (d ≡ 0 → e ≡ 0) → g.rows ≡ rows_then f start c b → g.oldest ≡ f.oldest → rows_then g start d e ≡ rows_then f start (c + d) (b + e)
rows_then-twice f g start zero b zero e none no_more is oldest =
    let count : 0 + 0 ≡ 0 = omega arith in
    is ∙ sym (ap (λ n. rows_then f start n (b + e)) count)
rows_then-twice f g start zero b (suc d) e none no_more is oldest =
    let count : 0 + suc d ≡ suc d = omega arith in
    let zero_bytes : b ≡ 0 = none refl in
    let bytes : e ≡ b + e = omega (arith, zero_bytes) in
    (λ i. rows_more (max start (oldest i)) (suc d) (bytes i) (is i)) ∙ sym (ap (λ n. rows_then f start n (b + e)) count)
rows_then-twice f g start (suc c) b zero e none no_more is oldest =
    let count : suc c + 0 ≡ suc c = omega arith in
    let zero_bytes : e ≡ 0 = no_more refl in
    let bytes : b ≡ b + e = omega (arith, zero_bytes) in
    is ∙ ap (λ n. rows_more (max start f.oldest) (suc c) n f.rows) bytes ∙ sym (ap (λ n. rows_then f start n (b + e)) count)
rows_then-twice f g start (suc c) b (suc d) e none no_more is oldest =
    let count : suc c + suc d ≡ suc (c + suc d) = omega arith in
    (λ i. rows_more (max start (oldest i)) (suc d) e (is i))
    ∙ rows_more-twice (max start f.oldest) (suc c) b (suc d) e f.rows
    ∙ ap (λ n. rows_more (max start f.oldest) n (b + e) f.rows) count
    ∙ sym (ap (λ n. rows_then f start n (b + e)) count)
