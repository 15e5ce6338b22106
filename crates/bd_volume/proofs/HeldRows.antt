-- What is read off rows that hold their groups: their records, that they hold, and the places of headers and bodies.
use Rattle.std.proofs.Common.{◌≡◌, ℕ, ◌+◌, ◌≤◌, Bool, true, false, cond, ◌&&◌, List, [], ◌∷◌, ◌++◌, length, take, drop, map, filter, refl, sym, ◌∙◌, ap, subst, arith, append_assoc, drop-drop}
use Rattle.std.specs.Prelude.{if◌then◌else◌, nat_le}
use Rattle.std.specs.List.{flat_map, list_all}
use Rattle.std.proofs.lemmas.Bool.{or_left, or_right}
use Rattle.std.proofs.lemmas.List.{drop-take, map-append}
use Rattle.std.proofs.lemmas.List.Sums.{sum_by-cons}
use Rattle.std.proofs.lemmas.Grind.{flat_map-append}
use Rattle.bd_model.specs.declared.damage.Owner.{Owner}
use Rattle.bd_model.specs.declared.layout.CategoryRow.{CategoryRow}
use Rattle.bd_model.specs.Extents.{owner_bytes, places_at}
use Rattle.bd_model.specs.History.{contains}
use Rattle.bd_model.specs.Layout.{record_bytes, row_of}
use Rattle.bd_model.specs.Records.{records_of, stored_at, stored_in}
use Rattle.bd_model.specs.Sizes.{Sizes}
use Rattle.bd_model.proofs.ChunkListLemmas.{contains-append}
use Rattle.bd_catalog.specs.Rows.{RowPlace, Spot, begun_by, row_spots, rows_from, spots_from, spots_in}
use Rattle.bd_catalog.specs.Sound.{part_holds, part_records}
use Rattle.bd_catalog.specs.Walks.{record_reads}
use Rattle.bd_volume.specs.Holding.{Group, HoldsRow, HoldsRows, chunks_of_groups}
use Rattle.bd_volume.proofs.StoredChunks.{Bounded, stored_of, bounded_later, behind_chunk, chunk-read, part_stands, small_first, stored-records}
use Rattle.bd_volume.proofs.WalkRecords.{part_at}

-- the groups that begin at v or before
abbrev pub begun_groups : ℕ → List Group → List Group
begun_groups v gs = filter (λ g. nat_le g.start v) gs

-- the places that are read of these records: of each its header, and its body where that is used
abbrev pub spot_reads : Sizes → (List ℕ → Bool) → List Spot → List ℕ
spot_reads s used spots = flat_map (λ x. places_at s x.extents x.at 36 ++ (if used x.stored.body then places_at s x.extents (x.at + 36) x.stored.length else [])) spots

pub reads-append : (s : Sizes) (used : List ℕ → Bool) (extents : List ℕ) (at : ℕ) (cs ds : List (List ℕ)) → record_reads s extents used at (cs ++ ds) ≡ record_reads s extents used at cs ++ record_reads s extents used (at + record_bytes cs) ds
reads-append s used extents at [] ds = let same : at ≡ at + record_bytes [] = omega arith in ap (λ n. record_reads s extents used n ds) same
reads-append s used extents at (c ∷ cs) ds =
    let header = places_at s extents at 36 in
    let body = if used c then places_at s extents (at + 36) (length c) else [] in
    let first = record_reads s extents used (at + 36 + length c) cs in
    let sums : at + 36 + length c + record_bytes cs ≡ at + record_bytes (c ∷ cs) = omega (arith, sum_by-cons (λ d. 36 + length d) c cs) in
    ap (λ l. (header ++ body) ++ l) (reads-append s used extents (at + 36 + length c) cs ds ∙ ap (λ n. first ++ record_reads s extents used n ds) sums)
    ∙ sym (append_assoc (header ++ body) first (record_reads s extents used (at + record_bytes (c ∷ cs)) ds))

module _ (s : Sizes) (image : List ℕ) where
  pub held-append : (ps qs : List RowPlace) (gs hs : List Group) → HoldsRows s image ps gs → HoldsRows s image qs hs → HoldsRows s image (ps ++ qs) (gs ++ hs)
  held-append [] qs [] hs first rest = rest
  held-append [] qs (g ∷ gs) hs first rest = absurd first
  held-append (p ∷ ps) qs [] hs first rest = absurd first
  held-append (p ∷ ps) qs (g ∷ gs) hs first rest = (first.0, held-append ps qs gs hs first.1 rest)

  -- a row begins where its group does
  pub held_begun : (v : ℕ) (ps : List RowPlace) (gs : List Group) → HoldsRows s image ps gs → HoldsRows s image (begun_by v ps) (begun_groups v gs)
  held_begun v [] [] held = tt
  held_begun v [] (g ∷ gs) held = absurd held
  held_begun v (p ∷ ps) [] held = absurd held
  held_begun v (p ∷ ps) (g ∷ gs) held =
      let start : p.row.start ≡ g.start = ap (λ (r : CategoryRow). r.start) held.0.row in
      let rows = begun_by v ps in
      let groups = begun_groups v gs in
      subst (λ n. HoldsRows s image (cond (nat_le n v) (p ∷ rows) rows) (cond (nat_le g.start v) (g ∷ groups) groups)) (sym start)
      (elim (nat_le g.start v) as (λ t. HoldsRows s image (cond t (p ∷ rows) rows) (cond t (g ∷ groups) groups)) [
        | true ↦ (held.0, held_begun v ps gs held.1)
        | false ↦ held_begun v ps gs held.1
      ])

module _ (s : Sizes) (short : s.max ≤ 65536) (image : List ℕ) where
  bounded_first : (g : Group) (gs : List Group) → Bounded s (chunks_of_groups (g ∷ gs)) → Bounded s g.chunks
  bounded_first g gs bounded = λ c has. bounded c (contains-append g.chunks (chunks_of_groups gs) c ∙ or_left (contains g.chunks c) (contains (chunks_of_groups gs) c) has)

  bounded_rest : (g : Group) (gs : List Group) → Bounded s (chunks_of_groups (g ∷ gs)) → Bounded s (chunks_of_groups gs)
  bounded_rest g gs bounded = λ c has. bounded c (contains-append g.chunks (chunks_of_groups gs) c ∙ or_right (contains g.chunks c) (contains (chunks_of_groups gs) c) has)

  -- ---- records

  row_held : (p : RowPlace) (g : Group) → HoldsRow s image p g → Bounded s g.chunks → part_records (part_at s image p) ≡ map stored_of g.chunks
  row_held p g holds bounded = (λ i. stored_in (holds.row i).chunks (holds.bytes i)) ∙ stored-records s short g.chunks bounded

  -- the records of rows are those of their chunks
  pub held_records : (ps : List RowPlace) (gs : List Group) → HoldsRows s image ps gs → Bounded s (chunks_of_groups gs) → flat_map part_records (map (part_at s image) ps) ≡ map stored_of (chunks_of_groups gs)
  held_records [] [] holds bounded = refl
  held_records [] (g ∷ gs) holds bounded = absurd holds
  held_records (p ∷ ps) [] holds bounded = absurd holds
  held_records (p ∷ ps) (g ∷ gs) holds bounded =
      (λ i. row_held p g holds.0 (bounded_first g gs bounded) i ++ held_records ps gs holds.1 (bounded_rest g gs bounded) i)
      ∙ sym (map-append stored_of g.chunks (chunks_of_groups gs))

  -- and each of them holds
  pub held_parts : (ps : List RowPlace) (gs : List Group) → HoldsRows s image ps gs → Bounded s (chunks_of_groups gs) → list_all (part_holds s) (map (part_at s image) ps) ≡ true
  held_parts [] [] holds bounded = refl
  held_parts [] (g ∷ gs) holds bounded = absurd holds
  held_parts (p ∷ ps) [] holds bounded = absurd holds
  held_parts (p ∷ ps) (g ∷ gs) holds bounded =
      let is : part_at s image p ≡ record { row = row_of g.start g.chunks; bytes = records_of g.chunks } = λ i. record { row = holds.0.row i; bytes = holds.0.bytes i } in
      λ i. part_stands s short g.start g.chunks (part_at s image p) is (bounded_first g gs bounded) i && held_parts ps gs holds.1 (bounded_rest g gs bounded) i

  -- ---- reads

  module _ (used : List ℕ → Bool) where
    chunks-read : (extents bytes : List ℕ) (cs : List (List ℕ)) (at : ℕ) → Bounded s cs → drop at bytes ≡ records_of cs → spot_reads s used (spots_from extents bytes (length cs) at) ≡ record_reads s extents used at cs
    chunks-read extents bytes [] at bounded is = refl
    chunks-read extents bytes (c ∷ cs) at bounded is =
        let small = small_first s short c cs bounded in
        let rest = records_of cs in
        let r : stored_at (drop at bytes) ≡ stored_of c = ap stored_at is ∙ chunk-read c rest small in
        let place : at + 36 + length c ≡ at + (36 + length c) = omega arith in
        let behind : drop (at + 36 + length c) bytes ≡ rest = ap (λ n. drop n bytes) place ∙ sym (drop-drop (36 + length c) at bytes) ∙ ap (drop (36 + length c)) is ∙ behind_chunk c rest small in
        let header = places_at s extents at 36 in
        (λ i. (header ++ (if used (r i).body then places_at s extents (at + 36) (r i).length else [])) ++ spot_reads s used (spots_from extents bytes (length cs) (at + 36 + (r i).length)))
        ∙ ap (λ l. (header ++ (if used c then places_at s extents (at + 36) (length c) else [])) ++ l) (chunks-read extents bytes cs (at + 36 + length c) (bounded_later s short c cs bounded) behind)

    pub row_reads : (p : RowPlace) (g : Group) → HoldsRow s image p g → Bounded s g.chunks → spot_reads s used (row_spots s image p) ≡ record_reads s p.extents used p.from g.chunks
    row_reads p g holds bounded =
        let bytes = take (p.from + p.row.bytes) (owner_bytes s p.extents image) in
        ap (λ (r : CategoryRow). spot_reads s used (spots_from p.extents bytes r.chunks p.from)) holds.row
        ∙ chunks-read p.extents bytes g.chunks p.from bounded (drop-take p.from p.row.bytes (owner_bytes s p.extents image) ∙ holds.bytes)

    pub spot_reads-append : (xs ys : List Spot) → spot_reads s used (xs ++ ys) ≡ spot_reads s used xs ++ spot_reads s used ys
    spot_reads-append xs ys = flat_map-append (λ (x : Spot). places_at s x.extents x.at 36 ++ (if used x.stored.body then places_at s x.extents (x.at + 36) x.stored.length else [])) xs ys

    -- of rows of one owner, end to end
    pub owner_reads : (who : Owner) (extents : List ℕ) (from : ℕ) (rows : List CategoryRow) (gs : List Group) → HoldsRows s image (rows_from who extents from rows) gs → Bounded s (chunks_of_groups gs) →
        spot_reads s used (spots_in s image (rows_from who extents from rows)) ≡ record_reads s extents used from (chunks_of_groups gs)
    owner_reads who extents from [] [] holds bounded = refl
    owner_reads who extents from [] (g ∷ gs) holds bounded = absurd holds
    owner_reads who extents from (row ∷ rows) [] holds bounded = absurd holds
    owner_reads who extents from (row ∷ rows) (g ∷ gs) holds bounded =
        let p : RowPlace = record { who = who; extents = extents; from = from; row = row } in
        let size : from + row.bytes ≡ from + record_bytes g.chunks = ap (λ (r : CategoryRow). from + r.bytes) holds.0.row in
        spot_reads-append (row_spots s image p) (spots_in s image (rows_from who extents (from + row.bytes) rows))
        ∙ (λ i. row_reads p g holds.0 (bounded_first g gs bounded) i ++ owner_reads who extents (from + row.bytes) rows gs holds.1 (bounded_rest g gs bounded) i)
        ∙ ap (λ n. record_reads s extents used from g.chunks ++ record_reads s extents used n (chunks_of_groups gs)) size
        ∙ sym (reads-append s used extents from g.chunks (chunks_of_groups gs))
