-- What the reading of a record finds among the bytes of an owner.
use Rattle.std.specs.Prelude.{◌≡◌, ℕ, ◌+◌, ◌-◌, ◌&&◌, Bool, true, false, List, ◌++◌, length, take, drop, nat_lt, nat_le, Result, Ok, Err, if◌then◌else◌}
use Rattle.std.specs.Int.{w32, from_be_bytes}
use Rattle.bd_model.specs.Sizes.{Sizes}
use Rattle.bd_model.specs.Marks.{mark}
use Rattle.bd_model.specs.Records.{four}
use Rattle.bd_model.specs.declared.mark.Mark.{Mark}
use Rattle.bd_model.specs.declared.damage.Damage.{Damage}
use Rattle.bd_model.specs.declared.damage.Damage.TheVariants.{Header as BadHeader, Body as BadBody}
use Rattle.bd_model.specs.declared.damage.Owner.{Owner}
use Rattle.bd_category.specs.declared.fault.Header.{Header}
use Rattle.bd_category.specs.declared.fault.CategoryFault.{CategoryFault}
use Rattle.bd_category.specs.declared.fault.CategoryFault.TheVariants.{DiskFault, Damaged}

-- a record with this mark, be it the body's or not
abbrev pub record_with : Mark → List ℕ → List ℕ
record_with m body = four (length body) ++ m.0 ++ body

-- the header that 36 bytes say, or the damage that it is: a length that no body has, where `left` bytes follow in the row
abbrev pub header_in : ℕ → Owner → ℕ → ℕ → List ℕ → Result Header Damage
header_in max who at left bytes =
    let n = from_be_bytes w32 (take 4 bytes) in
    if nat_le 1 n && nat_le n max && nat_le n left
    then Ok (record { length = n; mark = record { 0 = take 32 (drop 4 bytes) }; at = at })
    else Err (BadHeader who at n left)

-- the header at a place of a row that ends at `end`, among the bytes of its owner; where too few are left for one the
-- damage says length 0
abbrev pub header_at : Sizes → Owner → ℕ → ℕ → List ℕ → Result Header Damage
header_at s who at end bytes =
    if nat_lt (end - at) 36
    then Err (BadHeader who at 0 (end - at))
    else header_in s.max who at (end - at - 36) (take 36 (drop at bytes))

-- the body behind a header
abbrev pub body_at : Header → List ℕ → List ℕ
body_at header bytes = take header.length (drop (header.at + 36) bytes)

-- the answer is the expected one, but for a fault of the disk
abbrev pub AnswersHeader : Result Header Damage → Result Header CategoryFault → Type 0
AnswersHeader expected (Ok header) = expected ≡ Ok header
AnswersHeader expected (Err (Damaged damage)) = expected ≡ Err damage
AnswersHeader expected (Err DiskFault) = Unit {0}

-- Ok where the body has the header's mark, and the bytes are given; else the damage names both marks
abbrev pub AnswersBody : Owner → Header → List ℕ → List ℕ → Result (Unit {0}) CategoryFault → Type 0
AnswersBody who header body given (Ok _) = (given ≡ body) × (mark body ≡ header.mark.0)
AnswersBody who header body given (Err (Damaged damage)) =
    (damage ≡ BadBody who header.at header.mark (record { 0 = mark body })) × (mark body ≡ header.mark.0 → ⊥)
AnswersBody who header body given (Err DiskFault) = Unit {0}

abbrev pub is_disk_fault_of_record : CategoryFault → Bool
is_disk_fault_of_record DiskFault = true
is_disk_fault_of_record (Damaged damage) = false
