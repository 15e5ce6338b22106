-- What an opening finds in an image that a commit made.
use Rattle.std.proofs.Common.{◌≡◌, ⊎_elim, ℕ, ◌+◌, ◌-◌, ◌^◌, ◌<◌, ◌≤◌, true, eqb, List, [], ◌∷◌, ◌++◌, length, take, Some, refl, ◌∙◌, ap, arith, length-append}
use Rattle.std.proofs.lemmas.Nat.{from_be_bytes-to_be_bytes_8}
use Rattle.std.proofs.Math.Seq.{take-append_seam}
use Rattle.std.specs.Int.{w64, from_be_bytes}
use Rattle.bd_disk.specs.Images.{InRange, AgreeBut, bytes_at}
use Rattle.bd_model.specs.Records.{eight}
use Rattle.bd_model.specs.Sizes.{Sizes, half_bytes, half_place}
use Rattle.bd_gate.specs.Superblock.{eight_at, closed_gate}
use Rattle.bd_gate.specs.Commits.{frame_of}
use Rattle.bd_gate.specs.Halves.{half_at, newest_half, is_open, payload_of, InHalf, half_of}
use Rattle.bd_gate.specs.Standing.{IsCommitted}
use Rattle.bd_gate.proofs.Newest.{place, places, newest_is_open}
use Rattle.bd_gate.proofs.Kept.{half_of_frame}

-- ---- a frame

-- eight bytes of a number, and what follows, back as the number
eight_back : (n : ℕ) (rest : List ℕ) → n < 2 ^ 64 → from_be_bytes w64 (take 8 (eight n ++ rest)) ≡ n
eight_back n rest fits = from_be_bytes-to_be_bytes_8 n fits

length-eight : (n : ℕ) → length (eight n) ≡ 8
length-eight n = refl

pub length-frame_of : (turn : ℕ) (payload : List ℕ) → length (frame_of turn payload) ≡ 10 + length payload
length-frame_of turn payload =
    omega (arith, length-append (eight (length payload)) (payload ++ (closed_gate ∷ [])), length-append payload (closed_gate ∷ []), length-eight (length payload))

frame_length : (turn : ℕ) (payload : List ℕ) → length payload < 2 ^ 64 → eight_at (frame_of turn payload) 1 ≡ length payload
frame_length turn payload fits = eight_back (length payload) (payload ++ (closed_gate ∷ [])) fits

frame_payload : (turn : ℕ) (payload : List ℕ) → bytes_at 9 (length payload) (frame_of turn payload) ≡ payload
frame_payload turn payload = take-append_seam payload (closed_gate ∷ [])

-- ---- the half that was committed

-- the gate of the other half lies outside this one
other_gate_apart : (size number : ℕ) → number < 2 → 1 ≤ size → InRange (place size number) size (place size (1 - number)) → ⊥
other_gate_apart size number lt some r =
    let p = places size number lt in ⊎_elim (λ e. omega (arith, e, r.0, r.1)) (λ e. omega (arith, e, r.0, r.1)) p.apart

-- the half that was the newest is open still
pub other_still_open : (s : Sizes) (number : ℕ) (old image : List ℕ) → number < 2 → newest_half s old ≡ Some (1 - number) → AgreeBut (InHalf s number) old image → is_open s image (1 - number) ≡ true
other_still_open s number old image lt is but =
    ap (λ g. eqb g 79) (but.each (half_place s (1 - number)) (λ r. other_gate_apart (half_bytes s) number lt (omega arith) r))
    ∙ (newest_is_open (half_bytes s) number old lt is).0

-- an opening of the image finds this half, with its turn and payload
pub record FindsPayload (s : Sizes) (number turn : ℕ) (payload image : List ℕ) : Type 0 where
  pub newest : newest_half s image ≡ Some number
  pub half : half_at s image number ≡ half_of number turn (length payload) true
  pub bytes : payload_of s (half_at s image number) image ≡ payload

pub committed_payload : (s : Sizes) (number turn : ℕ) (payload old image : List ℕ) → number < 2 → length payload < 2 ^ 64 → newest_half s old ≡ Some (1 - number) → IsCommitted s number (frame_of turn payload) old image
    → FindsPayload s number turn payload image
committed_payload s number turn payload old image lt fits is committed =
    let frame = frame_of turn payload in
    let long = length-frame_of turn payload in
    let framed = half_of_frame s number frame image committed.stands in
    let same : half_at s image number ≡ half_of number turn (length payload) true =
    λ i. half_of number (framed.turn (omega arith) i) ((framed.payload_length (omega arith) ∙ frame_length turn payload fits) i) (other_still_open s number old image lt is committed.elsewhere i) in
    record {
      newest = framed.newest;
      half = same;
      bytes = ap (λ half. payload_of s half image) same
          ∙ framed.payload (half_of number turn (length payload) true) refl (omega arith)
          ∙ frame_payload turn payload;
    }

-- ---- elsewhere
