-- The records of chunks, as they are read back.
use Rattle.std.proofs.Common.{◌≡◌, ℕ, suc, ◌+◌, ◌^◌, ◌<◌, ◌≤◌, true, false, cond, ◌&&◌, List, [], ◌∷◌, ◌++◌, length, take, drop, map, refl, sym, ◌∙◌, ap, arith, sum_by, replicate, nat_le, le-leb, eq-eqb}
use Rattle.std.specs.Prelude.{◌==◌}
use Rattle.std.specs.Str.{bytes_eq}
use Rattle.std.specs.Int.{w32, from_be_bytes}
use Rattle.std.specs.List.{list_all}
use Rattle.std.proofs.lemmas.List.Folds.{fold-map}
use Rattle.bd_model.specs.History.{contains}
use Rattle.bd_model.specs.Layout.{record_bytes, row_of}
use Rattle.bd_model.specs.Marks.{mark}
use Rattle.bd_model.specs.Records.{Stored, record_of, records_of, stored_at, stored_in}
use Rattle.bd_model.specs.Sizes.{Sizes}
use Rattle.bd_model.specs.declared.mark.Mark.{Mark}
use Rattle.bd_model.proofs.ChunkListLemmas.{bytes_eq-refl, bytes_eq-same, bytes_eq-other, contains-first, contains-later}
use Rattle.bd_model.proofs.NeedLemmas.{TellsApart, bytes_eq-mark}
use Rattle.bd_category.proofs.ReadingBack.{length-read, rest-read, stored-read}
use Rattle.bd_catalog.specs.Sound.{Part, part_holds, part_records, stored_holds, with_mark}
use Rattle.bd_model.proofs.RecordLemmas.{length-mark}
use Rattle.bd_volume.proofs.ChunkCounts.{times, times-cons}

-- a chunk as a record that is read
abbrev pub stored_of : List ℕ → Stored
stored_of c = record { length = length c; mark = mark c; body = c }

-- chunks have a byte, and no more than a chunk may have
abbrev pub Bounded : Sizes → List (List ℕ) → Type 0
Bounded s cs = (c : List ℕ) → contains cs c ≡ true → (1 ≤ length c) × (length c ≤ s.max)

-- ---- one record

module _ (c rest : List ℕ) (small : length c < 2 ^ 32) where
  abbrev own : Mark
  own = record { 0 = mark c }

  length-chunk : from_be_bytes w32 (take 4 (record_of c ++ rest)) ≡ length c
  length-chunk = length-read own c rest (length-mark c) small

  pub chunk-read : stored_at (record_of c ++ rest) ≡ stored_of c
  chunk-read = stored-read own c rest (length-mark c) small

  pub behind_chunk : drop (36 + length c) (record_of c ++ rest) ≡ rest
  behind_chunk = rest-read own c rest (length-mark c) small

-- ---- records end to end

module _ (s : Sizes) (short : s.max ≤ 65536) where
  pub small_first : (c : List ℕ) (cs : List (List ℕ)) → Bounded s (c ∷ cs) → length c < 2 ^ 32
  small_first c cs bounded = omega (arith, (bounded c (contains-first c cs)).1)

  pub bounded_later : (c : List ℕ) (cs : List (List ℕ)) → Bounded s (c ∷ cs) → Bounded s cs
  bounded_later c cs bounded = λ d has. bounded d (contains-later c d cs has)

  pub stored-records : (cs : List (List ℕ)) → Bounded s cs → stored_in (length cs) (records_of cs) ≡ map stored_of cs
  stored-records [] bounded = refl
  stored-records (c ∷ cs) bounded =
      let small = small_first c cs bounded in
      let rest = records_of cs in
      (λ i. chunk-read c rest small i ∷ stored_in (length cs) (drop (36 + length-chunk c rest small i) (record_of c ++ rest)))
      ∙ ap (λ l. stored_of c ∷ stored_in (length cs) l) (behind_chunk c rest small)
      ∙ ap (λ rs. stored_of c ∷ rs) (stored-records cs (bounded_later c cs bounded))

  all_hold : (cs : List (List ℕ)) → Bounded s cs → list_all (stored_holds s) (map stored_of cs) ≡ true
  all_hold [] bounded = refl
  all_hold (c ∷ cs) bounded =
      let b = bounded c (contains-first c cs) in
      let low : nat_le 1 (length c) ≡ true = le-leb 1 (length c) b.0 in
      let high : nat_le (length c) s.max ≡ true = le-leb (length c) s.max b.1 in
      let same : (length c == length c) ≡ true = eq-eqb (length c) (length c) refl in
      λ i. (((low i && high i) && same i) && bytes_eq-refl (mark c) i) && all_hold cs (bounded_later c cs bounded) i

  pub part_stands : (start : ℕ) (cs : List (List ℕ)) (p : Part) → p ≡ record { row = row_of start cs; bytes = records_of cs } → Bounded s cs → part_holds s p ≡ true
  part_stands start cs p is bounded =
      let part : Part = record { row = row_of start cs; bytes = records_of cs } in
      let records : part_records part ≡ map stored_of cs = stored-records cs bounded in
      let total : sum_by (λ (r : Stored). 36 + r.length) (map stored_of cs) ≡ record_bytes cs = fold-map (λ n (r : Stored). n + (36 + r.length)) stored_of 0 cs in
      ap (part_holds s) is
      ∙ (λ i. list_all (stored_holds s) (records i) && sum_by (λ (r : Stored). 36 + r.length) (records i) == record_bytes cs)
      ∙ (λ i. all_hold cs bounded i && eq-eqb (sum_by (λ (r : Stored). 36 + r.length) (map stored_of cs)) (record_bytes cs) total i)

-- ---- records by their marks

same_mark : (c d : List ℕ) → (mark c ≡ mark d → c ≡ d) → bytes_eq (mark d) (mark c) ≡ bytes_eq c d
same_mark c d apart =
    elim (bytes_eq c d) as (λ t. bytes_eq c d ≡ t → bytes_eq (mark d) (mark c) ≡ t) [
      | true ↦ λ e. ap (λ x. bytes_eq (mark x) (mark c)) (sym (bytes_eq-same c d e)) ∙ bytes_eq-refl (mark c)
      | false ↦ λ e. bytes_eq-other (mark c) (mark d) (bytes_eq-mark c d apart ∙ e)
    ] refl

-- where marks tell chunks apart the records with the mark of one are its own
pub with_mark-stored : (cs : List (List ℕ)) (c : List ℕ) → TellsApart c cs → with_mark (mark c) (map stored_of cs) ≡ replicate (times cs c) (stored_of c)
with_mark-stored [] c apart = refl
with_mark-stored (d ∷ cs) c apart =
    let rest = with_mark (mark c) (map stored_of cs) in
    let more : rest ≡ replicate (times cs c) (stored_of c) = with_mark-stored cs c (λ x has. apart x (contains-later d x cs has)) in
    ap (λ t. cond t (stored_of d ∷ rest) rest) (same_mark c d (apart d (contains-first d cs)))
    ∙ elim (bytes_eq c d) as (λ t. bytes_eq c d ≡ t → cond t (stored_of d ∷ rest) rest ≡ replicate (cond t 1 0 + times cs c) (stored_of c)) [
      | true ↦ λ e.
          let count : suc (times cs c) ≡ 1 + times cs c = omega arith in
          (λ i. stored_of (sym (bytes_eq-same c d e) i) ∷ more i) ∙ ap (λ n. replicate n (stored_of c)) count
      | false ↦ λ e.
          let count : times cs c ≡ 0 + times cs c = omega arith in
          more ∙ ap (λ n. replicate n (stored_of c)) count
    ] refl
    ∙ ap (λ n. replicate n (stored_of c)) (sym (times-cons d cs c))
