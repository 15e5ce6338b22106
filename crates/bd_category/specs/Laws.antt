-- The laws of records that are written, and read again.
use Rattle.std.specs.Prelude.{◌≡◌, ℕ, ◌+◌, ◌^◌, ◌<◌, ◌≤◌, List, ◌++◌, length, flat_map, All, Ok}
use Rattle.bd_disk.specs.Images.{overwritten}
use Rattle.bd_model.specs.Records.{Stored, stored_in}
use Rattle.bd_model.specs.Sizes.{Sizes}
use Rattle.bd_model.specs.declared.damage.Owner.{Owner}
use Rattle.bd_model.specs.declared.mark.Mark.{Mark}
use Rattle.bd_category.specs.declared.fault.Header.{Header}
use Rattle.bd_category.specs.Records.{body_at, header_at, record_with}

-- the header of a record with this mark and this body at a place
abbrev pub header_of : Mark → List ℕ → ℕ → Header
header_of m body at = record { length = length body; mark = m; at = at }

-- a mark and a body that have room in a record of a row that ends at `end`
pub record FitsInRow (s : Sizes) (m : Mark) (body : List ℕ) (at end : ℕ) : Type 0 where
  pub mark : length m.0 ≡ 32
  pub some : 1 ≤ length body
  pub short : length body ≤ s.max
  pub small : s.max < 2 ^ 32
  pub inside : at + 36 + length body ≤ end

-- where a record is written among the bytes of an owner, its header is found
abbrev pub AHeaderReadsBack : Type 0
AHeaderReadsBack = (s : Sizes) (who : Owner) (m : Mark) (body owner : List ℕ) (at end : ℕ) → FitsInRow s m body at end → end ≤ length owner
    → header_at s who at end (overwritten owner at (record_with m body)) ≡ Ok (header_of m body at)

-- and behind it its body
abbrev pub ABodyReadsBack : Type 0
ABodyReadsBack = (s : Sizes) (m : Mark) (body owner : List ℕ) (at end : ℕ) → FitsInRow s m body at end → end ≤ length owner
    → body_at (header_of m body at) (overwritten owner at (record_with m body)) ≡ body

-- a stored record is as long as it says, and its fields have room in a header
pub record IsWholeRecord (r : Stored) : Type 0 where
  pub sized : r.length ≡ length r.body
  pub small : r.length < 2 ^ 32
  pub marked : length r.mark ≡ 32

-- the bytes of records, one written behind the other
abbrev pub written_records : List Stored → List ℕ
written_records records = flat_map (λ r. record_with (record { 0 = r.mark }) r.body) records

-- records are what their bytes say, whatever follows them
abbrev pub RecordsReadBack : Type 0
RecordsReadBack = (records : List Stored) (rest : List ℕ) → All IsWholeRecord records → stored_in (length records) (written_records records ++ rest) ≡ records
