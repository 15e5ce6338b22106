-- The first bytes of a file, fetch after fetch.
use Rattle.std.proofs.Common.{◌≡◌, ◌∙◌, ℕ, ◌+◌, ◌≤◌, List, ◌++◌, length, take, drop, refl, sym, subst, ap, arith, inr, ⊎_elim, Option, None, Some, Result, Ok, take-take, length-take-le}
use Rattle.std.proofs.Math.Seq.{take-add, take-append-add}
use Rattle.std.proofs.lemmas.Slice.{take-put_mid}
use Rattle.std.specs.Prelude.{IsErr}
use Rattle.std.specs.FinMap as map
use Rattle.bd_files.proofs.FileLemmas.{held_once}
use Rattle.bd_files.specs.Files.{CountsStrays, Fetches, Holds, Lacks}
use Rattle.bd_model.specs.FileMap.{FileMap}
use Rattle.mfdedup.specs.Script.{FetchesFront}
use borrow.Rule.Slice.PartMut.{put_mid}

-- so many bytes were fetched: none of a name that isn't there, else the first ones
pub record IsFront (files : FileMap) (name : List ℕ) (at : ℕ) (into : List ℕ) : Type 0 where
  pub none : Lacks files name → at ≡ 0
  pub within : (bytes : List ℕ) → Holds files name bytes → at ≤ length bytes
  pub so : (bytes : List ℕ) → Holds files name bytes → take at into ≡ take at bytes

-- bytes are under a name, or nothing is
pub by_name : {A : Type 0} (files : FileMap) (name : List ℕ) → ((bytes : List ℕ) → Holds files name bytes → A) → (Lacks files name → A) → A
by_name {A} files name held lacked = by (map.get files name) refl where
  by : (found : Option (List ℕ)) → map.get files name ≡ found → A
  by (Some bytes) e = held bytes (record { there = e })
  by None e = lacked (record { none = e })

pub not_both : {A : Type 0} (files : FileMap) (name bytes : List ℕ) → Holds files name bytes → Lacks files name → A
not_both files name bytes holds lacks = let clash : Some bytes ≡ None = sym holds.there ∙ lacks.none in absurd (cc clash)

-- where a fetch answered Ok the name was there, so none was missing
pub none_missing : {T E : Type 0} (files : FileMap) (name : List ℕ) (before now : ℕ) (result : Result T E) (value : T) → result ≡ Ok value → (Lacks files name → IsErr result) → CountsStrays files name before now → now ≡ before
none_missing {T} {E} files name before now result value is missing counts =
    by_name files name (λ bytes holds. counts.kept bytes holds) (λ lacks. let clash : IsErr {T = T} {E = E} (Ok value) = subst IsErr is (missing lacks) in absurd (cc clash))

module _ (files other : FileMap) (name : List ℕ) (at n k room : ℕ) (into part : List ℕ) (same : other ≡ files) (fetched : Fetches other name at room n part) where
  there : Holds files name fetched.bytes
  there = subst (λ f. Holds f name fetched.bytes) same fetched.file

  one : (bytes : List ℕ) → Holds files name bytes → fetched.bytes ≡ bytes
  one bytes holds = held_once files name fetched.bytes bytes there holds

  more : at ≤ length into → n ≤ length part → take (at + n) (put_mid at k into part) ≡ take at into ++ take n part
  more within few =
      sym (take-take (at + n) (at + length part) (put_mid at k into part) (omega arith))
      ∙ ap (take (at + n)) (take-put_mid at k into part (at + length part) refl within)
      ∙ subst (λ l. take (l + n) (take at into ++ part) ≡ take at into ++ take n part) (length-take-le at into within) (take-append-add (take at into) part n)

  pub front_more : at ≤ length into → n ≤ length part → IsFront files name at into → IsFront files name (at + n) (put_mid at k into part)
  front_more within few front = record {
    none = λ lacks. not_both files name fetched.bytes there lacks;
    within = λ bytes holds.
        let e = ap length (one bytes holds) in
        ⊎_elim (λ whole. omega (arith, whole, e)) (λ none. omega (arith, none, front.within bytes holds)) fetched.within;
    so = λ bytes holds.
        more within few ∙ (λ i. front.so bytes holds i ++ (fetched.so ∙ ap (λ bs. take n (drop at bs)) (one bytes holds)) i) ∙ sym (take-add at n bytes);
  }

-- there is no room for more
pub front_full : (files : FileMap) (name : List ℕ) (n room : ℕ) (into : List ℕ) → 1 ≤ n → n ≡ room → IsFront files name n into → FetchesFront files name n room into
front_full files name n room into some full front =
    by_name files name (λ bytes holds. record { bytes = bytes; file = holds; within = front.within bytes holds; so = front.so bytes holds; all = inr full }) (λ lacks. absurd (omega (arith, front.none lacks, some)))
