-- What stays of the newest half where its standing stays, what a frame makes of it, and what a commit leaves elsewhere.
use Rattle.std.proofs.Common.{◌≡◌, add-zero, ℕ, ◌+◌, ◌-◌, ◌*◌, ◌<◌, ◌≤◌, ◌%◌, List, length, take, drop, get_or, Some, sym, ◌∙◌, ap, subst, arith, length-take, get_or-take, get_or-drop, take-take}
use Rattle.std.proofs.lemmas.List.{drop-take, drop-drop}
use Rattle.std.specs.Int.{w64, from_be_bytes}
use Rattle.bd_disk.specs.Images.{InRange, Agree, bytes_at}
use Rattle.bd_disk.specs.History.{History, contents}
use Rattle.bd_disk.specs.Made.{IsSure, WritesNothing}
use Rattle.bd_disk.proofs.Frames.{still_now, unchanged}
use Rattle.bd_model.specs.Sizes.{Sizes, half_bytes, half_place, payload_room}
use Rattle.bd_gate.specs.Superblock.{eight_at}
use Rattle.bd_gate.specs.Halves.{Half, half_at, newest_half, is_open, turn_at, payload_of, InHalf, InHalves}
use Rattle.bd_gate.specs.Standing.{behind, SameStanding, HasFrame, IsOlderHalf, next_turn}
use Rattle.bd_gate.proofs.Newest.{place, places, other_twice}
use Rattle.bd_gate.proofs.StandingLemmas.{same_halves, newest_of_standing, bytes_of_standing}

-- ---- where the standing stays

-- images that agree on both halves have the same standing
pub standing_of_halves : (s : Sizes) (old image : List ℕ) → Agree (InHalves s) old image → SameStanding s old image
standing_of_halves s old image same = same_halves (half_bytes s) old image (omega arith) same

-- ---- bytes of a part of a list

-- a part of the front is a part of the whole
part_of_front : (i n m : ℕ) (bytes : List ℕ) → i + n ≤ m → bytes_at i n (take m bytes) ≡ bytes_at i n bytes
part_of_front i n m bytes fits =
    let whole : m ≡ i + (m - i) = omega arith in
    ap (λ k. take n (drop i (take k bytes))) whole ∙ ap (take n) (drop-take i (m - i) bytes) ∙ take-take n (m - i) (drop i bytes) (omega arith)

-- a part of what begins at a place
part_behind : (at i n : ℕ) (bytes : List ℕ) → bytes_at i n (drop at bytes) ≡ bytes_at (at + i) n bytes
part_behind at i n bytes = ap (take n) (drop-drop i at bytes)

-- a part of the bytes behind the gate, for halves of one size
behind_part : (size at i n : ℕ) (image : List ℕ) → i + n + 1 ≤ size → bytes_at i n (bytes_at at (size - 1) image) ≡ bytes_at (at + i) n image
behind_part size at i n image fits = part_of_front i n (size - 1) (drop at image) (omega arith) ∙ part_behind at i n image

behind_byte : (size at : ℕ) (image : List ℕ) → 1 < size → get_or (bytes_at at (size - 1) image) 0 0 ≡ get_or image at 0
behind_byte size at image long = get_or-take (size - 1) (drop at image) 0 0 (omega arith) ∙ get_or-drop at image 0 0 ∙ ap (λ n. get_or image n 0) (add-zero at)

-- where a part of a half begins, counted from behind its gate
shifted : (at i n : ℕ) (image : List ℕ) → bytes_at (at + 1 + i) n image ≡ bytes_at (at + (i + 1)) n image
shifted at i n image = let e : at + 1 + i ≡ at + (i + 1) = omega arith in ap (λ k. bytes_at k n image) e

-- ---- a half that stays

-- the half is the newest of both images, and has the same turn, length and payload
pub record SameHalf (s : Sizes) (k : ℕ) (old image : List ℕ) : Type 0 where
  pub newest : newest_half s image ≡ Some k
  pub bytes : behind s image k ≡ behind s old k
  pub turn : turn_at s image k ≡ turn_at s old k
  pub payload_length : eight_at image (half_place s k + 2) ≡ eight_at old (half_place s k + 2)
  pub payload : (half : Half) → half.number ≡ k → half.length ≤ payload_room s → payload_of s half image ≡ payload_of s half old

same_part : (size at i n : ℕ) (old image : List ℕ) → i + n + 1 ≤ size → bytes_at (at + 1) (size - 1) image ≡ bytes_at (at + 1) (size - 1) old → bytes_at (at + (i + 1)) n image ≡ bytes_at (at + (i + 1)) n old
same_part size at i n old image fits same =
    sym (shifted at i n image) ∙ sym (behind_part size (at + 1) i n image fits) ∙ ap (bytes_at i n) same ∙ behind_part size (at + 1) i n old fits ∙ shifted at i n old

-- where the standing stays, the newest half does
pub half_of_standing : (s : Sizes) (k : ℕ) (old image : List ℕ) → SameStanding s old image → newest_half s old ≡ Some k → SameHalf s k old image
half_of_standing s k old image same is =
    let size = half_bytes s in
    let bytes : behind s image k ≡ behind s old k = bytes_of_standing size k old image same is in
    let at = half_place s k in
    record {
      newest = newest_of_standing size old image same ∙ is;
      bytes = bytes;
      turn = sym (behind_byte size (at + 1) image (omega arith)) ∙ ap (λ l. get_or l 0 0) bytes ∙ behind_byte size (at + 1) old (omega arith);
      payload_length = ap (from_be_bytes w64) (same_part size at 1 8 old image (omega arith) bytes);
      payload = λ half is_k fits.
          ap (λ n. bytes_at (half_place s n + 10) half.length image) is_k
          ∙ same_part size at 9 half.length old image (omega (arith, fits)) bytes
          ∙ sym (ap (λ n. bytes_at (half_place s n + 10) half.length old) is_k);
    }

-- ---- a half with a frame

short_front : (n size : ℕ) (frame bytes : List ℕ) → take (length frame) (take size bytes) ≡ frame → n ≤ length frame → n ≤ size
short_front n size frame bytes holds fits =
    omega (arith, fits, length-take (length frame) (take size bytes), length-take size bytes, ap length holds)

-- a part of the frame, in a half of one size
frame_part : (size at i n : ℕ) (frame image : List ℕ) → take (length frame) (bytes_at (at + 1) (size - 1) image) ≡ frame → i + n ≤ length frame → bytes_at (at + (i + 1)) n image ≡ bytes_at i n frame
frame_part size at i n frame image holds fits =
    let inside : i + n ≤ size - 1 = short_front (i + n) (size - 1) frame (drop (at + 1) image) holds fits in
    sym (shifted at i n image) ∙ sym (part_behind (at + 1) i n image) ∙ sym (part_of_front i n (size - 1) (drop (at + 1) image) inside)
    ∙ sym (part_of_front i n (length frame) (bytes_at (at + 1) (size - 1) image) fits) ∙ ap (bytes_at i n) holds

-- the half has the frame's turn, length and payload, as far as the frame goes
pub record IsFramed (s : Sizes) (k : ℕ) (frame image : List ℕ) : Type 0 where
  pub newest : newest_half s image ≡ Some k
  pub turn : 1 ≤ length frame → turn_at s image k ≡ get_or frame 0 0
  pub payload_length : 9 ≤ length frame → eight_at image (half_place s k + 2) ≡ eight_at frame 1
  pub payload : (half : Half) → half.number ≡ k → half.length + 9 ≤ length frame → payload_of s half image ≡ bytes_at 9 half.length frame

pub half_of_frame : (s : Sizes) (k : ℕ) (frame image : List ℕ) → HasFrame s k frame image → IsFramed s k frame image
half_of_frame s k frame image has =
    let size = half_bytes s in
    let at = half_place s k in
    record {
      newest = has.newest;
      turn = λ some.
          sym (behind_byte size (at + 1) image (omega arith)) ∙ sym (get_or-take (length frame) (behind s image k) 0 0 (omega arith)) ∙ ap (λ l. get_or l 0 0) has.holds;
      payload_length = λ long. ap (from_be_bytes w64) (frame_part size at 1 8 frame image has.holds long);
      payload = λ half is_k fits.
          ap (λ n. bytes_at (half_place s n + 10) half.length image) is_k
          ∙ frame_part size at 9 half.length frame image has.holds (omega (arith, fits));
    }

-- ---- from the newest half to the next commit

-- what was found of the newest half is what a commit to the other one asks
pub beside_newest : (s : Sizes) (half : Half) {a b : History} → WritesNothing a b → IsSure (InHalves s) (contents a) a → newest_half s (contents a) ≡ Some half.number → half ≡ half_at s (contents a) half.number → half.number ≤ 1
    → IsOlderHalf s (1 - half.number) half.other_open b
beside_newest s half {a} {b} nothing sure is found few =
    let same : contents b ≡ contents a = unchanged nothing in
    record {
      newest = ap (newest_half s) same ∙ is ∙ ap Some (sym (other_twice half.number (omega arith)));
      gate = ap (λ image. is_open s image (1 - half.number)) same ∙ sym (ap (λ (h : Half). h.other_open) found);
      sure = subst (λ image. IsSure (InHalves s) image b) (sym same) (still_now nothing sure);
    }

pub turn_after : (s : Sizes) (half : Half) {a b : History} → WritesNothing a b → half ≡ half_at s (contents a) half.number → half.number ≤ 1 → (half.turn + 1) % 3 ≡ next_turn s (1 - half.number) (contents b)
turn_after s half {a} {b} nothing found few =
    ap (λ (h : Half). (h.turn + 1) % 3) found ∙ (λ i. (turn_at s (sym (unchanged nothing) i) (sym (other_twice half.number (omega arith)) i) + 1) % 3)

-- ---- elsewhere

half_within : (size number at : ℕ) → number < 2 → InRange (place size number) size at → InRange 64 (2 * size) at
half_within size number at lt r = let p = places size number lt in (omega (arith, r.0, p.this_from), omega (arith, r.1, p.this_to))

-- a half is among both
pub within_halves : (s : Sizes) (number at : ℕ) → number < 2 → InHalf s number at → InHalves s at
within_halves s number at lt r = half_within (half_bytes s) number at lt r

-- the superblock lies in no half
pub superblock_apart : (s : Sizes) (at : ℕ) → at < 64 → InHalves s at → ⊥
superblock_apart s at lt r = omega (arith, r.0)
