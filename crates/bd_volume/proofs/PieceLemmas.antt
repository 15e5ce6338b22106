-- A piece names its row: its owner's extents are found by number or start.
use Rattle.std.proofs.Common.{◌≡◌, ℕ, ◌+◌, ◌-◌, ◌<◌, ◌≤◌, true, false, cond, ◌&&◌, ◌||◌, List, [], ◌∷◌, ◌++◌, length, map, filter, nat_lt, append_assoc, refl, sym, ◌∙◌, ap, arith, eq-eqb}
use Rattle.std.specs.Prelude.{IsTrue, nat_le, ◌==◌}
use Rattle.std.specs.List.{flat_map}
use Rattle.std.proofs.lemmas.Bool.{leb-true, ne_eqb}
use Rattle.std.proofs.lemmas.List.{append-nil, map-append}
use Rattle.bd_model.specs.declared.damage.Owner.TheVariants.{Volume}
use Rattle.bd_model.specs.declared.layout.CategoryRow.{CategoryRow}
use Rattle.bd_model.specs.Chunks.{numbers}
use Rattle.bd_model.specs.Sizes.{Sizes}
use Rattle.bd_model.proofs.ListLemmas.{left_and, right_and}
use Rattle.bd_roll.specs.Catalogue.{Catalogue, OpenEntry, volume_extents}
use Rattle.bd_catalog.specs.Rows.{RowPlace, begun_by, open_row, rows_from, volume_rows, walk}
use Rattle.bd_roll.specs.Rules.{ascends, obeys}
use Rattle.bd_catalog.proofs.StandingFound.{obeys-each}
use Rattle.bd_volume.specs.Pieces.{extents_of, piece_at, pieces_of, row_of_piece}
use Rattle.bd_volume.specs.declared.piece.Piece.{Piece}
use Rattle.bd_volume.proofs.RowLists.{begun-append}

-- each of these rows has the extents of its owner
abbrev pub AreOwned : Catalogue → List RowPlace → Type 0
AreOwned c [] = Unit {0}
AreOwned c (p ∷ ps) = (extents_of c p.who ≡ p.extents) × AreOwned c ps

-- and so its piece names it
pub places_again : (c : Catalogue) (ps : List RowPlace) → AreOwned c ps → map (row_of_piece c) (map piece_at ps) ≡ ps
places_again c [] owned = refl
places_again c (p ∷ ps) owned =
    let bytes : p.from + p.row.bytes - p.from ≡ p.row.bytes = omega arith in
    λ i. record { who = p.who; extents = owned.0 i; from = p.from; row = record { start = p.row.start; chunks = p.row.chunks; bytes = bytes i } } ∷ places_again c ps owned.1 i

owned-append : (c : Catalogue) (xs ys : List RowPlace) → AreOwned c xs → AreOwned c ys → AreOwned c (xs ++ ys)
owned-append c [] ys first rest = rest
owned-append c (x ∷ xs) ys first rest = (first.0, owned-append c xs ys first.1 rest)

pub owned-begun : (c : Catalogue) (v : ℕ) (xs : List RowPlace) → AreOwned c xs → AreOwned c (begun_by v xs)
owned-begun c v [] owned = tt
owned-begun c v (x ∷ xs) owned =
    elim (nat_le x.row.start v) as (λ t. AreOwned c (cond t (x ∷ begun_by v xs) (begun_by v xs))) [
      | true ↦ (owned.0, owned-begun c v xs owned.1)
      | false ↦ owned-begun c v xs owned.1
    ]

owned_rows : (c : Catalogue) (j from : ℕ) (rows : List CategoryRow) → AreOwned c (rows_from (Volume j) (volume_extents c j) from rows)
owned_rows c j from [] = tt
owned_rows c j from (row ∷ rows) = (refl, owned_rows c j (from + row.bytes) rows)

owned_volumes : (c : Catalogue) (js : List ℕ) → AreOwned c (flat_map (volume_rows c) js)
owned_volumes c [] = tt
owned_volumes c (j ∷ js) = owned-append c (volume_rows c j) (flat_map (volume_rows c) js) (owned_rows c j 0 _) (owned_volumes c js)

-- ---- open categories

-- those with this start
abbrev starting : ℕ → List OpenEntry → List OpenEntry
starting i es = filter (λ e. e.row.start == i) es

none_later : (low high i : ℕ) (es : List OpenEntry) → ascends low high (map (λ e. e.row.start) es) ≡ true → i < low → starting i es ≡ []
none_later low high i [] up before = refl
none_later low high i (e ∷ es) up before =
    let n = e.row.start in
    let rest = ascends (n + 1) high (map (λ x. x.row.start) es) in
    let here : nat_le low n ≡ true = left_and (nat_le low n) (nat_le n high) (left_and (nat_le low n && nat_le n high) rest up) in
    let other : (n == i) ≡ false = ne_eqb n i (λ same. absurd (omega (arith, leb-true low n here))) in
    ap (λ t. cond t (e ∷ starting i es) (starting i es)) other
    ∙ none_later (n + 1) high i es (right_and (nat_le low n && nat_le n high) rest up) (omega (arith, leb-true low n here))

-- the last of them, where those before begin earlier
owned_opens : (c : Catalogue) (low high : ℕ) (es : List OpenEntry) → ascends low high (map (λ e. e.row.start) es) ≡ true →
    ((i : ℕ) → low ≤ i → starting i c.actives ≡ starting i es) → AreOwned c (map open_row es)
owned_opens c low high [] up last = tt
owned_opens c low high (e ∷ es) up last =
    let n = e.row.start in
    let rest = ascends (n + 1) high (map (λ x. x.row.start) es) in
    let from : low ≤ n = leb-true low n (left_and (nat_le low n) (nat_le n high) (left_and (nat_le low n && nat_le n high) rest up)) in
    let later : rest ≡ true = right_and (nat_le low n && nat_le n high) rest up in
    let own : (n == n) ≡ true = eq-eqb n n refl in
    let mine : starting n c.actives ≡ e ∷ [] =
    last n from ∙ ap (λ t. cond t (e ∷ starting n es) (starting n es)) own ∙ ap (λ l. e ∷ l) (none_later (n + 1) high n es later (omega arith)) in (
      ap (flat_map (λ (x : OpenEntry). x.extents)) mine ∙ append-nil e.extents,
      owned_opens c (n + 1) high es later (λ i low_i.
          let other : (n == i) ≡ false = ne_eqb n i (λ same. absurd (omega (arith, low_i))) in
          last i (omega arith) ∙ ap (λ t. cond t (e ∷ starting i es) (starting i es)) other),
    )

pub opens_owned : (s : Sizes) (c : Catalogue) → IsTrue (obeys s c) → AreOwned c (map open_row c.actives)
opens_owned s c rules = owned_opens c (c.base + 1) c.newest c.actives (left_and (ascends (c.base + 1) c.newest (map (λ e. e.row.start) c.actives)) (nat_lt 0 (length c.versions) || length c.actives == 0) (obeys-each s c rules).actives) (λ i low. refl)

pub walk_owned : (s : Sizes) (c : Catalogue) (v : ℕ) → IsTrue (obeys s c) → AreOwned c (walk c v)
walk_owned s c v rules =
    let volumes = flat_map (volume_rows c) (numbers v (c.newest - 1)) in
    owned-begun c v (volumes ++ map open_row c.actives) (owned-append c volumes (map open_row c.actives) (owned_volumes c (numbers v (c.newest - 1))) (opens_owned s c rules))

-- ---- pieces behind others

pub pieces-append : (v : ℕ) (xs ys : List RowPlace) → pieces_of v (xs ++ ys) ≡ pieces_of v xs ++ pieces_of v ys
pieces-append v xs ys = ap (map piece_at) (begun-append v xs ys) ∙ map-append piece_at (begun_by v xs) (begun_by v ys)

pub put_one : (v : ℕ) (p : RowPlace) → cond (nat_le p.row.start v) (piece_at p ∷ []) [] ≡ pieces_of v (p ∷ [])
put_one v p = elim (nat_le p.row.start v) as (λ t. cond t (piece_at p ∷ []) [] ≡ map piece_at (cond t (p ∷ []) [])) [ true ↦ refl | false ↦ refl ]

-- pieces that go on behind others
pub put_behind : (v : ℕ) (old before more new : List Piece) (xs ys all : List RowPlace) → before ≡ old ++ pieces_of v xs → new ≡ before ++ more → more ≡ pieces_of v ys → all ≡ xs ++ ys → new ≡ old ++ pieces_of v all
put_behind v old before more new xs ys all first goes is are =
    goes ∙ ap (λ l. l ++ more) first
    ∙ append_assoc old (pieces_of v xs) more
    ∙ ap (λ l. old ++ (pieces_of v xs ++ l)) is
    ∙ ap (λ l. old ++ l) (sym (pieces-append v xs ys) ∙ ap (pieces_of v) (sym are))
