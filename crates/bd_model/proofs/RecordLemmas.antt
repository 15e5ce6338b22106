-- How many bytes a mark, records and entries have.
use Rattle.std.proofs.Common.{◌≡◌, ℕ, ◌+◌, List, [], ◌∷◌, ◌++◌, length, refl, arith, length-append}
use Rattle.std.proofs.lemmas.List.Sums.{sum_by-cons}
use Rattle.sha2.proofs.Facts256.{length-sha256}
use Rattle.bd_model.specs.Layout.{record_bytes}
use Rattle.bd_model.specs.Marks.{mark}
use Rattle.bd_model.specs.Records.{four, record_of, records_of, spelled_entry}
use Rattle.bd_model.specs.declared.layout.RecipeEntry.{RecipeEntry}

pub length-mark : (c : List ℕ) → length (mark c) ≡ 32
unfolding mark
length-mark c = length-sha256 c

pub length-record : (c : List ℕ) → length (record_of c) ≡ 36 + length c
length-record c = omega (arith, length-append (four (length c) ++ mark c) c, length-append (four (length c)) (mark c), length-mark c)

pub length-records : (cs : List (List ℕ)) → length (records_of cs) ≡ record_bytes cs
length-records [] = refl
length-records (c ∷ cs) = omega (arith, length-append (record_of c) (records_of cs), length-record c, length-records cs, sum_by-cons (λ d. 36 + length d) c cs)

-- an entry whose mark has the length of a mark
pub length-spelled_entry : (e : RecipeEntry) → length e.mark.0 ≡ 32 → length (spelled_entry e) ≡ 40
length-spelled_entry e long = omega (arith, length-append (e.mark.0 ++ four e.length) (four e.start), length-append e.mark.0 (four e.length), long)
