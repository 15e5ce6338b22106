-- What the records of a log make of a state, one after the other.
use Rattle.std.specs.Prelude.{◌≡◌, ◌≢◌, ℕ, zero, suc, ◌+◌, ◌==◌, Bool, List, [], ◌∷◌, ◌++◌, length, take, drop, nat_le, Option, Some, None, if◌then◌else◌}
use Rattle.std.specs.Int.{w32, from_be_bytes}
use Rattle.std.specs.List.{concat}
use Rattle.bd_model.specs.Records.{four}
use Rattle.bd_gate.specs.Superblock.{open_gate, closed_gate, byte_at}
use Rattle.bd_gate.specs.declared.log.Gated.{Gated}
use Rattle.bd_gate.specs.declared.log.Gated.TheVariants.{Ends, Broken, Record}

-- Bytes that begin with a gate: how many bytes the record behind it has by the four bytes before them, and those bytes.
abbrev pub told_length : List ℕ → ℕ
told_length bytes = from_be_bytes w32 (take 4 (drop 1 bytes))

abbrev pub content_of : List ℕ → List ℕ
content_of bytes = take (told_length bytes) (drop 5 bytes)

-- whether the record and the gate behind it end among the bytes
abbrev pub fits_in : List ℕ → Bool
fits_in bytes = nat_le (6 + told_length bytes) (length bytes)

-- what stands at the gate
abbrev pub first_gated : List ℕ → Gated
first_gated bytes = if byte_at bytes 0 == open_gate then (if fits_in bytes then Record (told_length bytes) else Broken) else Ends

-- the state at the end of a log, and the place of the gate that ends it
pub record Replayed (S : Type 0) : Type 0 where
  pub state : S
  pub log_end : ℕ

-- The bytes begin with a gate, at this place. The records behind open gates are taken in order, up to the first closed
-- gate; none where one doesn't fit or can't be taken. The first number is at least that of the bytes.
abbrev pub replayed : {S : Type 0} → ℕ → (S → List ℕ → Option S) → S → ℕ → List ℕ → Option (Replayed S)
replayed zero act st at bytes = None
replayed (suc n) act st at bytes =
    if byte_at bytes 0 == open_gate
    then (if fits_in bytes
    then elim (act st (content_of bytes)) [ None ↦ None | Some after ↦ replayed n act after (at + 5 + told_length bytes) (drop (told_length bytes) (drop 5 bytes)) ]
    else None)
    else Some (record { state = st; log_end = at })

-- a record behind its open gate
abbrev pub logged : List ℕ → List ℕ
logged content = open_gate ∷ (four (length content) ++ content)

-- the frame of a record: its length, its content and the next gate, which is closed
abbrev pub record_frame : List ℕ → List ℕ
record_frame content = four (length content) ++ (content ++ (closed_gate ∷ []))

-- A record with its gate in front: the gate is open, the record ends where it says, and leads from one state to the next.
pub record IsPiece (S : Type 0) (act : S → List ℕ → Option S) (st after : S) (p : List ℕ) : Type 0 where
  pub gate : byte_at p 0 ≡ open_gate
  pub size : length p ≡ 5 + told_length p
  pub so : act st (content_of p) ≡ Some after

abbrev pub ArePieces : (S : Type 0) → (S → List ℕ → Option S) → S → List (List ℕ) → S → Type 0
ArePieces S act st [] last = st ≡ last
ArePieces S act st (p ∷ ps) last = (after : S) × IsPiece S act st after p × ArePieces S act after ps last

-- the bytes begin with such records, and then a closed gate
pub record HasLog (S : Type 0) (act : S → List ℕ → Option S) (st : S) (at : ℕ) (bytes : List ℕ) (r : Replayed S) : Type 0 where
  pub pieces : List (List ℕ)
  pub gate : ℕ
  pub rest : List ℕ
  pub so : bytes ≡ concat pieces ++ (gate ∷ rest)
  pub shut : gate ≢ open_gate
  pub are : ArePieces S act st pieces r.state
  pub end : r.log_end ≡ at + length (concat pieces)
