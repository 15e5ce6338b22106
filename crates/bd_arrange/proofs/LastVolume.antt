-- The newest closed volume while splits are made.
use Rattle.std.proofs.Common.{◌≡◌, ℕ, zero, suc, ◌+◌, ◌-◌, ◌<◌, ◌≤◌, List, [], ◌∷◌, ◌++◌, length, map, get_or, refl, sym, ◌∙◌, ap, arith}
use Rattle.std.specs.List.{range_with_len}
use Rattle.bd_model.specs.Laws.{rows_more}
use Rattle.bd_model.specs.declared.layout.CategoryRow.{CategoryRow}
use Rattle.bd_model.proofs.ListLemmas.{not_nil}
use Rattle.std.specs.Prelude.{max}
use Rattle.bd_roll.specs.Catalogue.{Catalogue, VolumeEntry, oldest_in, volume_extents}
use Rattle.bd_roll.specs.Splitting.{SplitEntry, after_split, after_splits, last_extents, last_grown, last_rows}
use Rattle.bd_roll.proofs.RulesAfterSplit.{length-last}

abbrev pub rows_of : List VolumeEntry → List (List CategoryRow)
rows_of es = map (λ e. e.rows) es

abbrev pub extents_of : List VolumeEntry → List (List ℕ)
extents_of es = map (λ e. e.extents) es

-- ---- its rows

pub last_rows-are : (es : List VolumeEntry) (r : ℕ → List CategoryRow) (a n : ℕ) → rows_of es ≡ map r (range_with_len a (suc n)) → last_rows es ≡ r (a + n)
last_rows-are [] r a n is = absurd (not_nil (sym is))
last_rows-are (e ∷ []) r a zero is =
    let first : e.rows ≡ r a = cc in
    let place : a ≡ a + zero = omega arith in
    first ∙ ap r place
last_rows-are (e ∷ []) r a (suc n) is =
    let rest : [] ≡ r (a + 1) ∷ map r (range_with_len (a + 1 + 1) n) = cc in
    absurd (not_nil (sym rest))
last_rows-are (e ∷ second ∷ es) r a zero is =
    let rest : rows_of (second ∷ es) ≡ [] = cc in
    absurd (not_nil rest)
last_rows-are (e ∷ second ∷ es) r a (suc n) is =
    let rest : rows_of (second ∷ es) ≡ map r (range_with_len (a + 1) (suc n)) = cc in
    let place : a + 1 + n ≡ a + suc n = omega arith in
    last_rows-are (second ∷ es) r (a + 1) n rest ∙ ap r place

-- the last one's change, and no other's
pub rows-grown : (f : List CategoryRow → List CategoryRow) (added : List ℕ) (es : List VolumeEntry) (r now : ℕ → List CategoryRow) (a n : ℕ) → rows_of es ≡ map r (range_with_len a (suc n)) →
    ((j : ℕ) → a ≤ j → j < a + n → now j ≡ r j) → now (a + n) ≡ f (r (a + n)) → rows_of (last_grown f added es) ≡ map now (range_with_len a (suc n))
rows-grown f added [] r now a n is other last = absurd (not_nil (sym is))
rows-grown f added (e ∷ []) r now a zero is other last =
    let first : e.rows ≡ r a = cc in
    let place : a + zero ≡ a = omega arith in
    ap (λ rows. rows ∷ []) (ap f first ∙ ap (λ j. f (r j)) (sym place) ∙ sym last ∙ ap now place)
rows-grown f added (e ∷ []) r now a (suc n) is other last =
    let rest : [] ≡ r (a + 1) ∷ map r (range_with_len (a + 1 + 1) n) = cc in
    absurd (not_nil (sym rest))
rows-grown f added (e ∷ second ∷ es) r now a zero is other last =
    let rest : rows_of (second ∷ es) ≡ [] = cc in
    absurd (not_nil rest)
rows-grown f added (e ∷ second ∷ es) r now a (suc n) is other last =
    let first : e.rows ≡ r a = cc in
    let rest : rows_of (second ∷ es) ≡ map r (range_with_len (a + 1) (suc n)) = cc in
    let place : a + 1 + n ≡ a + suc n = omega arith in
    let own : now a ≡ r a = other a (omega arith) (omega arith) in
    let later : rows_of (last_grown f added (second ∷ es)) ≡ map now (range_with_len (a + 1) (suc n)) =
    rows-grown f added (second ∷ es) r now (a + 1) n rest (λ j low high. other j (omega arith) (omega arith)) (ap now place ∙ last ∙ ap (λ j. f (r j)) (sym place)) in
    λ k. (first ∙ sym own) k ∷ later k

-- ---- its extents

pub extents-grown : (f : List CategoryRow → List CategoryRow) (added : List ℕ) (es : List VolumeEntry) → 1 ≤ length es → last_extents (last_grown f added es) ≡ last_extents es ++ added
extents-grown f added [] some = absurd (omega (arith, some))
extents-grown f added (e ∷ []) some = refl
extents-grown f added (e ∷ second ∷ []) some = refl
extents-grown f added (e ∷ second ∷ third ∷ es) some = extents-grown f added (second ∷ third ∷ es) (omega arith)

pub last_extents-at : (es : List VolumeEntry) (k : ℕ) → length es ≡ suc k → get_or (extents_of es) k [] ≡ last_extents es
last_extents-at [] k long = absurd (omega (arith, long))
last_extents-at (e ∷ []) zero long = refl
last_extents-at (e ∷ []) (suc k) long = absurd (omega (arith, long))
last_extents-at (e ∷ second ∷ es) zero long = absurd (omega (arith, long))
last_extents-at (e ∷ second ∷ es) (suc k) long = last_extents-at (second ∷ es) k (omega (arith, long))

front-grown : (f : List CategoryRow → List CategoryRow) (added : List ℕ) (es : List VolumeEntry) (k : ℕ) → k + 1 < length es → get_or (extents_of (last_grown f added es)) k [] ≡ get_or (extents_of es) k []
front-grown f added [] k within = refl
front-grown f added (e ∷ []) k within = absurd (omega (arith, within))
front-grown f added (e ∷ second ∷ es) zero within = refl
front-grown f added (e ∷ second ∷ es) (suc k) within = front-grown f added (second ∷ es) k (omega (arith, within))

-- the extents of the others stay
pub front-splits : (c : Catalogue) (es : List SplitEntry) (j : ℕ) → j - oldest_in c + 1 < length c.volumes → volume_extents (after_splits c es) j ≡ volume_extents c j
front-splits c [] j within = refl
front-splits c (e ∷ es) j within =
    let f : List CategoryRow → List CategoryRow = rows_more (max e.start (oldest_in c)) e.chunks e.bytes in
    front-splits (after_split c e) es j (omega (arith, within, length-last f e.added c.volumes))
    ∙ front-grown f e.added c.volumes (j - oldest_in c) within

pub length-splits : (c : Catalogue) (es : List SplitEntry) → length (after_splits c es).volumes ≡ length c.volumes
length-splits c [] = refl
length-splits c (e ∷ es) = length-splits (after_split c e) es ∙ length-last (rows_more (max e.start (oldest_in c)) e.chunks e.bytes) e.added c.volumes
