-- What a restore of a version walks over in an image that holds its layout.
use Rattle.std.proofs.Common.{◌≡◌, ℕ, zero, suc, ◌+◌, ◌-◌, ◌<◌, ◌≤◌, Bool, true, false, cond, List, [], ◌∷◌, ◌++◌, length, map, filter, refl, sym, ◌∙◌, ap, subst, arith, nat_lt, le-leb}
use Rattle.std.specs.Prelude.{IsTrue, nat_le}
use Rattle.std.specs.List.{flat_map, list_all, range_with_len}
use Rattle.std.proofs.lemmas.Bool.{lt-leb, or_left, or_right}
use Rattle.std.proofs.lemmas.List.{append-nil}
use Rattle.std.proofs.lemmas.List.Elements.{filter-append}
use Rattle.std.proofs.lemmas.Grind.{flat_map-append}
use Rattle.bd_model.specs.declared.damage.Owner.{Owner}
use Rattle.bd_model.specs.declared.damage.Owner.TheVariants.{Volume}
use Rattle.bd_model.specs.declared.layout.CategoryRow.{CategoryRow}
use Rattle.bd_model.specs.declared.layout.Phase.{Phase}
use Rattle.bd_model.specs.Chunks.{numbers}
use Rattle.bd_model.specs.History.{VersionHistory, contains, newest, oldest}
use Rattle.bd_model.specs.Laws.{front_of}
use Rattle.bd_model.specs.Layout.{open_category, record_bytes, row_chunks, row_of}
use Rattle.bd_model.specs.Sizes.{Sizes}
use Rattle.bd_model.proofs.ChunkListLemmas.{contains-append}
use Rattle.bd_model.proofs.ListLemmas.{filter-numbers_none, filter-numbers, filter-all, numbers-split}
use Rattle.bd_model.proofs.RowLemmas.{no_chunks, rows_over}
use Rattle.bd_roll.specs.Catalogue.{Catalogue, OpenEntry, active_extents, volume_extents}
use Rattle.bd_catalog.specs.Rows.{RowPlace, begun_by, open_row, row_spots, rows_from, rows_in, spots_in, volume_rows, walk}
use Rattle.bd_roll.specs.Rules.{obeys}
use Rattle.bd_catalog.specs.Sound.{part_holds, part_records, parts_for, records_for}
use Rattle.bd_catalog.specs.Walks.{record_reads}
use Rattle.bd_volume.specs.Holding.{Group, HoldsLayout, HoldsRows, chunks_of_groups, group_at, groups_over}
use Rattle.bd_volume.proofs.HeldRows.{begun_groups, held-append, held_begun, held_parts, held_records, owner_reads, row_reads, spot_reads, spot_reads-append}
use Rattle.bd_volume.proofs.MappedLists.{filter_mapped}
use Rattle.bd_volume.proofs.PieceLemmas.{AreOwned, opens_owned, owned-begun}
use Rattle.bd_volume.proofs.RowLists.{begun-append}
use Rattle.bd_volume.proofs.StoredChunks.{Bounded, stored_of}
use Rattle.bd_volume.proofs.WalkRecords.{walk_parts}

-- ---- groups

-- groups without chunks have none
pub chunks-over : (f : ℕ → List (List ℕ)) (starts : List ℕ) → chunks_of_groups (groups_over f starts) ≡ flat_map f starts
chunks-over f [] = refl
chunks-over f (a ∷ starts) =
    elim (nat_lt 0 (length (f a))) as (λ t. nat_lt 0 (length (f a)) ≡ t → chunks_of_groups (cond t (group_at f a ∷ groups_over f starts) (groups_over f starts)) ≡ f a ++ flat_map f starts) [
      | true ↦ λ _. ap (λ l. f a ++ l) (chunks-over f starts)
      | false ↦ λ none. chunks-over f starts ∙ ap (λ cs. cs ++ flat_map f starts) (sym (no_chunks (f a) none))
    ] refl

begun-over : (v : ℕ) (f : ℕ → List (List ℕ)) (starts : List ℕ) → begun_groups v (groups_over f starts) ≡ groups_over f (filter (λ r. nat_le r v) starts)
begun-over v f [] = refl
begun-over v f (a ∷ starts) =
    let rest = groups_over f starts in
    let same = begun-over v f starts in
    elim (nat_lt 0 (length (f a))) as (λ t. nat_lt 0 (length (f a)) ≡ t → begun_groups v (cond t (group_at f a ∷ rest) rest) ≡ groups_over f (cond (nat_le a v) (a ∷ filter (λ r. nat_le r v) starts) (filter (λ r. nat_le r v) starts))) [
      | true ↦ λ some. elim (nat_le a v) as (λ t. cond t (group_at f a ∷ begun_groups v rest) (begun_groups v rest) ≡ groups_over f (cond t (a ∷ filter (λ r. nat_le r v) starts) (filter (λ r. nat_le r v) starts))) [
        | true ↦ ap (λ l. group_at f a ∷ l) same ∙ ap (λ t. cond t (group_at f a ∷ groups_over f (filter (λ r. nat_le r v) starts)) (groups_over f (filter (λ r. nat_le r v) starts))) (sym some)
        | false ↦ same
      ]
      | false ↦ λ none. elim (nat_le a v) as (λ t. begun_groups v rest ≡ groups_over f (cond t (a ∷ filter (λ r. nat_le r v) starts) (filter (λ r. nat_le r v) starts))) [
        | true ↦ same ∙ ap (λ t. cond t (group_at f a ∷ groups_over f (filter (λ r. nat_le r v) starts)) (groups_over f (filter (λ r. nat_le r v) starts))) (sym none)
        | false ↦ same
      ]
    ] refl

-- the numbers up to v of those up to b
numbers-begun : (a v b : ℕ) → a ≤ v + 1 → v ≤ b → filter (λ r. nat_le r v) (numbers a b) ≡ numbers a v
numbers-begun a v b low high =
    ap (filter (λ r. nat_le r v)) (numbers-split a v b low high)
    ∙ filter-append (λ r. nat_le r v) (numbers a v) (numbers (v + 1) b)
    ∙ (λ i. all i ++ none i)
    ∙ append-nil (numbers a v)
  where
    all : filter (λ r. nat_le r v) (numbers a v) ≡ numbers a v
    all = filter-numbers (λ r. nat_le r v) (λ _. true) a v (λ r from to. le-leb r v to) ∙ filter-all (λ _. true) (λ _. refl) (numbers a v)

    none : filter (λ r. nat_le r v) (numbers (v + 1) b) ≡ []
    none = filter-numbers_none (λ r. nat_le r v) (v + 1) b (λ r from to. lt-leb r v (omega arith))

-- ---- the rows of a volume in front

later_none : (v : ℕ) (who : Owner) (extents : List ℕ) (f : ℕ → List (List ℕ)) (from a n : ℕ) → v < a → begun_by v (rows_from who extents from (rows_over f (range_with_len a n))) ≡ []
later_none v who extents f from a zero past = refl
later_none v who extents f from a (suc n) past =
    let rest = rows_over f (range_with_len (a + 1) n) in
    let after : nat_le a v ≡ false = lt-leb a v past in
    elim (nat_lt 0 (length (f a))) as (λ t. begun_by v (rows_from who extents from (cond t (row_of a (f a) ∷ rest) rest)) ≡ []) [
      | true ↦ ap (λ t. cond t (record { who = who; extents = extents; from = from; row = row_of a (f a) } ∷ begun_by v (rows_from who extents (from + record_bytes (f a)) rest)) (begun_by v (rows_from who extents (from + record_bytes (f a)) rest))) after ∙ later_none v who extents f (from + record_bytes (f a)) (a + 1) n (omega arith)
      | false ↦ later_none v who extents f from (a + 1) n (omega arith)
    ]

-- they follow each other
rows-begun : (v : ℕ) (who : Owner) (extents : List ℕ) (f : ℕ → List (List ℕ)) (from a n k : ℕ) → a + k ≡ v + 1 → k ≤ n →
    begun_by v (rows_from who extents from (rows_over f (range_with_len a n))) ≡ rows_from who extents from (rows_over f (range_with_len a k))
rows-begun v who extents f from a n zero ends fits = later_none v who extents f from a n (omega arith)
rows-begun v who extents f from a zero (suc k) ends fits = absurd (omega arith)
rows-begun v who extents f from a (suc n) (suc k) ends fits =
    let rest = rows_over f (range_with_len (a + 1) n) in
    let front = rows_over f (range_with_len (a + 1) k) in
    let here : nat_le a v ≡ true = le-leb a v (omega arith) in
    elim (nat_lt 0 (length (f a))) as (λ t. begun_by v (rows_from who extents from (cond t (row_of a (f a) ∷ rest) rest)) ≡ rows_from who extents from (cond t (row_of a (f a) ∷ front) front)) [
      | true ↦ let p : RowPlace = record { who = who; extents = extents; from = from; row = row_of a (f a) } in
          let later = begun_by v (rows_from who extents (from + record_bytes (f a)) rest) in
          ap (λ t. cond t (p ∷ later) later) here ∙ ap (λ l. p ∷ l) (rows-begun v who extents f (from + record_bytes (f a)) (a + 1) n k (omega arith) (omega arith))
      | false ↦ rows-begun v who extents f from (a + 1) n k (omega arith) (omega arith)
    ]

-- ---- rows that hold groups

-- the row that counts a group
abbrev group_row : Group → CategoryRow
group_row g = row_of g.start g.chunks

rows-over : (f : ℕ → List (List ℕ)) (starts : List ℕ) → map group_row (groups_over f starts) ≡ rows_over f starts
rows-over f [] = refl
rows-over f (a ∷ starts) =
    elim (nat_lt 0 (length (f a))) as (λ t. map group_row (cond t (group_at f a ∷ groups_over f starts) (groups_over f starts)) ≡ cond t (row_of a (f a) ∷ rows_over f starts) (rows_over f starts)) [
      | true ↦ ap (λ l. row_of a (f a) ∷ l) (rows-over f starts)
      | false ↦ rows-over f starts
    ]

rows_are : (s : Sizes) (image : List ℕ) (who : Owner) (extents : List ℕ) (from : ℕ) (rows : List CategoryRow) (gs : List Group) → HoldsRows s image (rows_from who extents from rows) gs → rows ≡ map group_row gs
rows_are s image who extents from [] [] held = refl
rows_are s image who extents from [] (g ∷ gs) held = absurd held
rows_are s image who extents from (row ∷ rows) [] held = absurd held
rows_are s image who extents from (row ∷ rows) (g ∷ gs) held = λ i. held.0.row i ∷ rows_are s image who extents (from + row.bytes) rows gs held.1 i

-- ---- bounds of parts

bounded_left : (s : Sizes) (xs ys : List (List ℕ)) → Bounded s (xs ++ ys) → Bounded s xs
bounded_left s xs ys bounded = λ c has. bounded c (contains-append xs ys c ∙ or_left (contains xs c) (contains ys c) has)

bounded_right : (s : Sizes) (xs ys : List (List ℕ)) → Bounded s (xs ++ ys) → Bounded s ys
bounded_right s xs ys bounded = λ c has. bounded c (contains-append xs ys c ∙ or_right (contains xs c) (contains ys c) has)

-- the chunks whose records a restore of v walks over: the fronts of the closed volumes from v on, and the open categories
-- that begin at v or before
abbrev pub walked : VersionHistory → Phase → ℕ → List (List ℕ)
walked h phase v = flat_map (λ j. front_of h phase j v) (numbers v (newest h - 1)) ++ flat_map (open_category h phase) (numbers (h.base + 1) v)

module _ (s : Sizes) (h : VersionHistory) (phase : Phase) (c : Catalogue) (image : List ℕ) (layout : HoldsLayout s h phase c image) (v : ℕ) (low : oldest h ≤ v) (high : v ≤ newest h) (last : c.newest ≡ newest h) where
  abbrev volume_groups : ℕ → List Group
  volume_groups j = groups_over (row_chunks h phase j) (numbers (oldest h) v)

  abbrev open_groups : List Group
  open_groups = groups_over (open_category h phase) (numbers (h.base + 1) v)

  abbrev walk_groups : List Group
  walk_groups = flat_map volume_groups (numbers v (newest h - 1)) ++ open_groups

  volume_walked : (j : ℕ) → v ≤ j → j < newest h → HoldsRows s image (begun_by v (volume_rows c j)) (volume_groups j)
  volume_walked j from to =
      subst (HoldsRows s image (begun_by v (volume_rows c j)))
      (begun-over v (row_chunks h phase j) (numbers (oldest h) j) ∙ ap (groups_over (row_chunks h phase j)) (numbers-begun (oldest h) v j (omega arith) from))
      (held_begun s image v (volume_rows c j) (groups_over (row_chunks h phase j) (numbers (oldest h) j)) (layout.volumes j (omega arith) to))

  volumes_walked : (a n : ℕ) → v ≤ a → a + n ≤ newest h → HoldsRows s image (begun_by v (flat_map (volume_rows c) (range_with_len a n))) (flat_map volume_groups (range_with_len a n))
  volumes_walked a zero from to = tt
  volumes_walked a (suc n) from to =
      let later = flat_map (volume_rows c) (range_with_len (a + 1) n) in
      subst (λ ps. HoldsRows s image ps (volume_groups a ++ flat_map volume_groups (range_with_len (a + 1) n))) (sym (begun-append v (volume_rows c a) later))
      (held-append s image (begun_by v (volume_rows c a)) (begun_by v later) (volume_groups a) (flat_map volume_groups (range_with_len (a + 1) n)) (volume_walked a from (omega arith)) (volumes_walked (a + 1) n (omega arith) (omega arith)))

  opens_walked : HoldsRows s image (begun_by v (map open_row c.actives)) open_groups
  opens_walked =
      subst (HoldsRows s image (begun_by v (map open_row c.actives)))
      (begun-over v (open_category h phase) (numbers (h.base + 1) (newest h)) ∙ ap (groups_over (open_category h phase)) (numbers-begun (h.base + 1) v (newest h) (omega arith) high))
      (held_begun s image v (map open_row c.actives) (groups_over (open_category h phase) (numbers (h.base + 1) (newest h))) layout.actives)

  -- the numbers of the closed volumes from v on
  closed-are : numbers v (c.newest - 1) ≡ numbers v (newest h - 1)
  closed-are = ap (λ n. numbers v (n - 1)) last

  walk-is : walk c v ≡ begun_by v (flat_map (volume_rows c) (numbers v (newest h - 1))) ++ begun_by v (map open_row c.actives)
  walk-is = ap (λ js. begun_by v (flat_map (volume_rows c) js ++ map open_row c.actives)) closed-are ∙ begun-append v (flat_map (volume_rows c) (numbers v (newest h - 1))) (map open_row c.actives)

  pub walk_held : HoldsRows s image (walk c v) walk_groups
  walk_held =
      subst (λ ps. HoldsRows s image ps walk_groups) (sym walk-is)
      (held-append s image (begun_by v (flat_map (volume_rows c) (numbers v (newest h - 1)))) (begun_by v (map open_row c.actives)) (flat_map volume_groups (numbers v (newest h - 1))) open_groups (volumes_walked v (newest h - 1 + 1 - v) (omega arith) (omega arith)) opens_walked)

  volumes-chunks : (js : List ℕ) → chunks_of_groups (flat_map volume_groups js) ≡ flat_map (λ j. front_of h phase j v) js
  volumes-chunks [] = refl
  volumes-chunks (j ∷ js) =
      flat_map-append (λ (g : Group). g.chunks) (volume_groups j) (flat_map volume_groups js)
      ∙ (λ i. chunks-over (row_chunks h phase j) (numbers (oldest h) v) i ++ volumes-chunks js i)

  chunks-walked : chunks_of_groups walk_groups ≡ walked h phase v
  chunks-walked =
      flat_map-append (λ (g : Group). g.chunks) (flat_map volume_groups (numbers v (newest h - 1))) open_groups
      ∙ (λ i. volumes-chunks (numbers v (newest h - 1)) i ++ chunks-over (open_category h phase) (numbers (h.base + 1) v) i)

  module _ (short : s.max ≤ 65536) (bounded : Bounded s (walked h phase v)) where
    bounded_groups : Bounded s (chunks_of_groups walk_groups)
    bounded_groups = subst (Bounded s) (sym chunks-walked) bounded

    -- where a restore of v looks there are the records of these chunks
    pub records_held : records_for s c image v ≡ map stored_of (walked h phase v)
    records_held =
        ap (flat_map part_records) (sym (walk_parts s image c v))
        ∙ held_records s short image (walk c v) walk_groups walk_held bounded_groups
        ∙ ap (map stored_of) chunks-walked

    -- and each row there holds
    pub rows_hold : IsTrue (list_all (part_holds s) (parts_for s c image v))
    rows_hold =
        ap (list_all (part_holds s)) (sym (walk_parts s image c v))
        ∙ held_parts s short image (walk c v) walk_groups walk_held bounded_groups

    -- ---- reads

    module _ (used : List ℕ → Bool) where
      abbrev volume_reads : ℕ → List ℕ
      volume_reads j = record_reads s (volume_extents c j) used 0 (front_of h phase j v)

      abbrev open_reads : ℕ → List ℕ
      open_reads i = record_reads s (active_extents c i) used 0 (open_category h phase i)

      volume_read : (j : ℕ) → v ≤ j → j < newest h → Bounded s (front_of h phase j v) → spot_reads s used (spots_in s image (begun_by v (volume_rows c j))) ≡ volume_reads j
      volume_read j from to within =
          let f = row_chunks h phase j in
          let starts = numbers (oldest h) v in
          let extents = volume_extents c j in
          let rows : rows_in c j ≡ rows_over f (numbers (oldest h) j) =
          rows_are s image (Volume j) extents 0 (rows_in c j) (groups_over f (numbers (oldest h) j)) (layout.volumes j (omega arith) to) ∙ rows-over f (numbers (oldest h) j) in
          let begun : begun_by v (volume_rows c j) ≡ rows_from (Volume j) extents 0 (rows_over f starts) =
          ap (λ rs. begun_by v (rows_from (Volume j) extents 0 rs)) rows ∙ rows-begun v (Volume j) extents f 0 (oldest h) (j + 1 - oldest h) (v + 1 - oldest h) (omega arith) (omega arith) in
          let chunks : chunks_of_groups (volume_groups j) ≡ front_of h phase j v = chunks-over f starts in
          ap (λ ps. spot_reads s used (spots_in s image ps)) begun
          ∙ owner_reads s short image used (Volume j) extents 0 (rows_over f starts) (volume_groups j) (subst (λ ps. HoldsRows s image ps (volume_groups j)) begun (volume_walked j from to)) (subst (Bounded s) (sym chunks) within)
          ∙ ap (record_reads s extents used 0) chunks

      volumes_read : (a n : ℕ) → v ≤ a → a + n ≤ newest h → Bounded s (flat_map (λ j. front_of h phase j v) (range_with_len a n)) →
          spot_reads s used (spots_in s image (begun_by v (flat_map (volume_rows c) (range_with_len a n)))) ≡ flat_map volume_reads (range_with_len a n)
      volumes_read a zero from to within = refl
      volumes_read a (suc n) from to within =
          let front = front_of h phase a v in
          let fronts = flat_map (λ j. front_of h phase j v) (range_with_len (a + 1) n) in
          let first = begun_by v (volume_rows c a) in
          let later = begun_by v (flat_map (volume_rows c) (range_with_len (a + 1) n)) in
          ap (λ ps. spot_reads s used (spots_in s image ps)) (begun-append v (volume_rows c a) (flat_map (volume_rows c) (range_with_len (a + 1) n)))
          ∙ ap (spot_reads s used) (flat_map-append (row_spots s image) first later)
          ∙ spot_reads-append s short image used (spots_in s image first) (spots_in s image later)
          ∙ (λ i. volume_read a from (omega arith) (bounded_left s front fronts within) i ++ volumes_read (a + 1) n (omega arith) (omega arith) (bounded_right s front fronts within) i)

      -- open categories by their groups
      groups_read : (es : List OpenEntry) (gs : List Group) → HoldsRows s image (map open_row es) gs → AreOwned c (map open_row es) → Bounded s (chunks_of_groups gs) →
          spot_reads s used (spots_in s image (map open_row es)) ≡ flat_map (λ g. record_reads s (active_extents c g.start) used 0 g.chunks) gs
      groups_read [] [] holds owned within = refl
      groups_read [] (g ∷ gs) holds owned within = absurd holds
      groups_read (e ∷ es) [] holds owned within = absurd holds
      groups_read (e ∷ es) (g ∷ gs) holds owned within =
          let own : e.extents ≡ active_extents c g.start = sym owned.0 ∙ ap (λ (r : CategoryRow). active_extents c r.start) holds.0.row in
          spot_reads-append s short image used (row_spots s image (open_row e)) (spots_in s image (map open_row es))
          ∙ (λ i. row_reads s short image used (open_row e) g holds.0 (bounded_left s g.chunks (chunks_of_groups gs) within) i ++ groups_read es gs holds.1 owned.1 (bounded_right s g.chunks (chunks_of_groups gs) within) i)
          ∙ ap (λ xs. record_reads s xs used 0 g.chunks ++ flat_map (λ (x : Group). record_reads s (active_extents c x.start) used 0 x.chunks) gs) own

      reads-over : (starts : List ℕ) → flat_map (λ (g : Group). record_reads s (active_extents c g.start) used 0 g.chunks) (groups_over (open_category h phase) starts) ≡ flat_map open_reads starts
      reads-over [] = refl
      reads-over (a ∷ starts) =
          let f = open_category h phase in
          let reads : List Group → List ℕ = λ gs. flat_map (λ (g : Group). record_reads s (active_extents c g.start) used 0 g.chunks) gs in
          elim (nat_lt 0 (length (f a))) as (λ t. nat_lt 0 (length (f a)) ≡ t → reads (cond t (group_at f a ∷ groups_over f starts) (groups_over f starts)) ≡ open_reads a ++ flat_map open_reads starts) [
            | true ↦ λ _. ap (λ l. open_reads a ++ l) (reads-over starts)
            | false ↦ λ none. reads-over starts ∙ ap (λ cs. record_reads s (active_extents c a) used 0 cs ++ flat_map open_reads starts) (sym (no_chunks (f a) none))
          ] refl

      opens_read : AreOwned c (map open_row c.actives) → Bounded s (flat_map (open_category h phase) (numbers (h.base + 1) v)) →
          spot_reads s used (spots_in s image (begun_by v (map open_row c.actives))) ≡ flat_map open_reads (numbers (h.base + 1) v)
      opens_read owned within =
          let begun = filter (λ e. nat_le e.row.start v) c.actives in
          let mapped : begun_by v (map open_row c.actives) ≡ map open_row begun = filter_mapped open_row (λ p. nat_le p.row.start v) c.actives in
          ap (λ ps. spot_reads s used (spots_in s image ps)) mapped
          ∙ groups_read begun open_groups (subst (λ ps. HoldsRows s image ps open_groups) mapped opens_walked) (subst (AreOwned c) mapped (owned-begun c v (map open_row c.actives) owned))
          (subst (Bounded s) (sym (chunks-over (open_category h phase) (numbers (h.base + 1) v))) within)
          ∙ reads-over (numbers (h.base + 1) v)

      -- What is read on the walk, where of each record the body is read that is used: of each front, and then of each open
      -- category, the reads of its chunks.
      pub reads_held : IsTrue (obeys s c) → spot_reads s used (spots_in s image (walk c v)) ≡ flat_map volume_reads (numbers v (newest h - 1)) ++ flat_map open_reads (numbers (h.base + 1) v)
      reads_held rules =
          let fronts = flat_map (λ j. front_of h phase j v) (numbers v (newest h - 1)) in
          let opens = flat_map (open_category h phase) (numbers (h.base + 1) v) in
          let first = begun_by v (flat_map (volume_rows c) (numbers v (newest h - 1))) in
          let later = begun_by v (map open_row c.actives) in
          ap (λ ps. spot_reads s used (spots_in s image ps)) walk-is
          ∙ ap (spot_reads s used) (flat_map-append (row_spots s image) first later)
          ∙ spot_reads-append s short image used (spots_in s image first) (spots_in s image later)
          ∙ (λ i. volumes_read v (newest h - 1 + 1 - v) (omega arith) (omega arith) (bounded_left s fronts opens bounded) i ++ opens_read (opens_owned s c rules) (bounded_right s fronts opens bounded) i)
