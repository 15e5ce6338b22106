-- Before the first record, and after the last.
use Rattle.std.proofs.Common.{◌≡◌, ℕ, suc, ◌+◌, ◌<◌, Bool, true, false, cond, T, List, [], ◌∷◌, ◌++◌, length, take, drop, replicate, refl, sym, ◌∙◌, ap, subst, arith, inl, inr, Some}
use Rattle.std.specs.Prelude.{Result, Ok, Err, OnErr, OnOk}
use Rattle.std.specs.Result.{is_err}
use Rattle.std.specs.FinMap as finmap
use Rattle.std.specs.FinMap.{get-insert, same_map, IsAntisymmetric, nat_cmp-IsAntisymmetric, slice_cmp-IsAntisymmetric}
use Rattle.std.specs.Ordering.{nat_cmp, eq_by_cmp, is_eq}
use Rattle.std.specs.Cmp.Lexicographic.{slice_cmp, nat_list_cmp_total}
use Rattle.std.specs.Cmp.{tied_itself}
use Rattle.std.proofs.lemmas.List.{take-append-drop, length-drop, length-replicate, get_or-replicate, drop-drop}
use Rattle.std.proofs.lemmas.List.Sums.{sum_by-cons}
use Rattle.std.proofs.lemmas.Bool.{false≢true}
use Rattle.bd_model.specs.FileMap.{FileMap}
use Rattle.bd_model.specs.Records.{Stored}
use Rattle.bd_model.specs.declared.layout.RecipeEntry.{RecipeEntry}
use Rattle.bd_files.specs.Files.{ChangesOnly}
use Rattle.bd_files.proofs.FileLemmas.{only_equal_names_tie, held_put}
use Rattle.bd_catalog.specs.Sound.{with_mark, first_body}
use Rattle.bd_recipe.specs.Reading.{total}
use Rattle.bd_restore.specs.Target.{HasChunks, held, mark_at, length_at, place_at, IsTarget, chunk_at, flag_at}
use Rattle.bd_restore.specs.Walk.{joined, AreFlags, AreGiven}
use Rattle.bd_restore.proofs.PutLemmas.{place-cons, held_is}
use Rattle.bd_restore.proofs.WalkLemmas.{bool_cases}

-- what holds at Ok, where it's no error
pub ok_of : {X E : Type 0} (r : Result X E) (P : Type 0) → is_err r ≡ false → OnOk r P → P
ok_of (Ok x) P not_err p = p
ok_of (Err e) P not_err p = absurd (false≢true (sym not_err))

pub err_of : {X E : Type 0} (r : Result X E) (P : Type 0) → is_err r ≡ true → OnErr r P → P
err_of (Err e) P err p = p
err_of (Ok x) P err p = absurd (false≢true err)

-- ---- before the first record

pub flags_none : (entries : List RecipeEntry) (filled : List Bool) → filled ≡ replicate (length entries) false → AreFlags entries [] filled
flags_none entries filled is = record {
  count = ap length is ∙ length-replicate (length entries) false;
  each = λ k lt. ap (λ l. flag_at l k) is ∙ get_or-replicate (length entries) k false false lt;
}

pub given_none : (entries : List RecipeEntry) (file : List ℕ) → AreGiven entries [] file
given_none entries file = record { each = λ k lt found. absurd (false≢true found); marks = λ k lt found. absurd (false≢true found) }

pub target_begun : (entries : List RecipeEntry) (old new : FileMap) (name : List ℕ) (n : ℕ) → n ≡ total entries → new ≡ finmap.insert old name (replicate n 0) → IsTarget entries name new
target_begun entries old new name n is so =
    let here : held new name ≡ replicate n 0 = held_is new name (replicate n 0) (held_put old new name (replicate n 0) so) in
    record { there = held_put old new name (replicate n 0) so ∙ ap Some (sym here); long = ap length here ∙ length-replicate n 0 ∙ is }

-- ---- after the last one

-- the chunks of all entries are the whole file
pub whole : (entries : List RecipeEntry) (records : List Stored) (file : List ℕ) → length file ≡ total entries → ((k : ℕ) → k < length entries → chunk_at entries k file ≡ first_body (with_mark (mark_at entries k) records)) → file ≡ joined entries records
whole [] records [] long each = refl
whole [] records (b ∷ bs) long each = absurd (omega (arith, long))
whole (x ∷ xs) records file long each =
    let rest = drop x.length file in
    let size : total (x ∷ xs) ≡ x.length + total xs = sum_by-cons (λ (e : RecipeEntry). e.length) x xs in
    let here : take x.length file ≡ first_body (with_mark x.mark.0 records) = each 0 (omega arith) in
    let behind : rest ≡ joined xs records =
    whole xs records rest (omega (arith, length-drop x.length file, long, size)) (λ k lt.
    ap (take (length_at xs k)) (drop-drop (place_at xs k) x.length file ∙ ap (λ p. drop p file) (sym (place-cons x xs k))) ∙ each (suc k) (omega arith)) in
    sym (take-append-drop x.length file) ∙ (λ i. here i ++ behind i)

pub all_given : (entries : List RecipeEntry) (records : List Stored) (filled : List Bool) (file : List ℕ) → length file ≡ total entries → AreFlags entries records filled → AreGiven entries records file → ((k : ℕ) → k < length filled → flag_at filled k ≡ true) → file ≡ joined entries records
all_given entries records filled file long flags given all =
    whole entries records file long (λ k lt. given.each k lt (sym (flags.each k lt) ∙ all k (omega (arith, lt, flags.count))))

-- and each of them has its mark
pub all_marked : (entries : List RecipeEntry) (records : List Stored) (filled : List Bool) (file : List ℕ) → length file ≡ total entries → AreFlags entries records filled → AreGiven entries records file → ((k : ℕ) → k < length filled → flag_at filled k ≡ true) → HasChunks entries file
all_marked entries records filled file long flags given all = record {
  long = long;
  marks = λ k lt. given.marks k lt (sym (flags.each k lt) ∙ all k (omega (arith, lt, flags.count)));
}

-- one name changed, and this is under it
pub only_put : (old new : FileMap) (name bytes : List ℕ) → ChangesOnly name old new → finmap.get new name ≡ Some bytes → new ≡ finmap.insert old name bytes
only_put old new name bytes changes there =
    let unique : IsAntisymmetric (slice_cmp nat_cmp) = slice_cmp-IsAntisymmetric nat_cmp-IsAntisymmetric in
    same_map nat_list_cmp_total unique new (finmap.insert old name bytes) (λ q.
    let which = bool_cases (eq_by_cmp (slice_cmp nat_cmp) q name) in
    let by : finmap.get new q ≡ cond (eq_by_cmp (slice_cmp nat_cmp) q name) (Some bytes) (finmap.get old q) =
    elim which [
      | inl tie ↦
          let same : q ≡ name = only_equal_names_tie q name (subst (λ b. T b) (sym tie) tt) in
          ap (finmap.get new) same ∙ there ∙ ap (λ b. cond b (Some bytes) (finmap.get old q)) (sym tie)
      | inr apart ↦
          let other : q ≡ name → ⊥ = λ same. false≢true (sym (sym (ap is_eq (tied_itself nat_list_cmp_total name)) ∙ ap (λ x. eq_by_cmp (slice_cmp nat_cmp) x name) (sym same) ∙ apart)) in
          changes.others q other ∙ ap (λ b. cond b (Some bytes) (finmap.get old q)) (sym apart)
    ] in
    by ∙ sym (get-insert nat_list_cmp_total old name bytes q))
