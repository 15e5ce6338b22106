-- What an opening finds of a formatted disk, and of one whose gate is shut.
use Rattle.std.proofs.Common.{◌≡◌, ◌≢◌, ℕ, ◌+◌, ◌<◌, ◌≤◌, ◌^◌, Bool, true, false, not, ◌&&◌, ◌==◌, List, length, take, drop, get_or, refl, sym, ◌∙◌, ap, arith, replicate, Some, Ok, Err, Result, IsErr, nat_lt, nat_le, le-leb, le-ltb, eq-eqb, if◌then◌else◌}
use Rattle.std.proofs.lemmas.Bool.{ne_eqb}
use Rattle.std.specs.Prelude.{bytes_eq}
use Rattle.std.specs.Int.{w32, w64, from_be_bytes}
use Rattle.std.proofs.lemmas.Nat.{from_be_bytes-to_be_bytes_4}
use Rattle.bd_disk.specs.Images.{bytes_at}
use Rattle.bd_disk.proofs.AgreeLemmas.{get_or-bytes_at, sub_bytes}
use Rattle.bd_model.specs.Limits.{IsShape}
use Rattle.bd_model.specs.Records.{four}
use Rattle.bd_model.specs.Sizes.{Sizes, is_shape, disk_bytes, half_place, payload_room}
use Rattle.bd_model.specs.declared.place.Place.{Place}
use Rattle.bd_model.specs.declared.place.Place.TheVariants.{Short, Gate, Magic, Number, Shape, Padding, Room, Payload}
use Rattle.bd_gate.specs.Superblock.{byte_at, four_at, open_gate, magic, sizes_at, is_marked}
use Rattle.bd_gate.specs.Halves.{newest_by, newest_half, half_at, payload_of, half_of}
use Rattle.bd_roll.specs.Catalogue.{empty_catalogue}
use Rattle.bd_roll.specs.Rules.{catalogue_of}
use Rattle.bd_catalog.specs.Opening.{Found, opened, opened_half, opened_payload}
use Rattle.bd_catalog.proofs.StandingFound.{opened-is, opened_by}
use Rattle.bd_recover.specs.Fresh.{HoldsFresh, fresh_found, fresh_half, superblock_body}

-- a shut gate, or none at all, is no store
pub shut : (image : List ℕ) → byte_at image 0 ≢ open_gate → IsErr (opened image)
unfolding opened
shut image closed =
    let gate : (byte_at image 0 == open_gate) ≡ false = ne_eqb (byte_at image 0) open_gate closed in
    elim (nat_lt (length image) 64) as (λ t. nat_lt (length image) 64 ≡ t → IsErr (opened image)) [
      | true ↦ λ e. rw e refl
      | false ↦ λ e. rw (e, gate) refl
    ] refl

-- so is an image without the mark
first_three : (short long gate same : Bool) (others : Result Found Place) → (short ≡ false → long ≡ true) → (long && gate && same) ≡ false
    → IsErr (if short then Err Short else (if not gate then Err Gate else (if not same then Err Magic else others)))
first_three true long gate same others known none = refl
first_three false long false same others known none = refl
first_three false long true false others known none = refl
first_three false long true true others known none = absurd (cc (known refl, none))

long_enough : (n : ℕ) → nat_lt n 64 ≡ false → nat_le 64 n ≡ true
long_enough n h = grind (arith, h)

pub unmarked : (image : List ℕ) → is_marked image ≡ false → IsErr (opened image)
unfolding opened
unmarked image none =
    first_three (nat_lt (length image) 64) (nat_le 64 (length image)) (byte_at image 0 == open_gate) (bytes_eq (bytes_at 1 7 image) magic) _ (long_enough (length image)) none

shape_holds : (s : Sizes) → IsShape s.extent s.extents s.retain s.min s.bits s.max → is_shape s ≡ true
shape_holds s is =
    rw (is.power_of_two, le-leb 64 s.extent is.extent_low, le-leb s.extent 16777216 is.extent_high, le-leb 1 s.extents is.extents_low, le-leb s.extents 65536 is.extents_high, le-leb 1 s.retain is.retain_low, le-leb s.retain 256 is.retain_high, le-leb 1 s.min is.min_low, le-leb s.min 65536 is.min_high, le-leb s.bits 32 is.bits_high, le-leb s.min s.max is.max_low, le-leb s.max 65536 is.max_high) refl

sizes_same : (s : Sizes) (extent extents retain min bits max : ℕ)
    → extent ≡ s.extent → extents ≡ s.extents → retain ≡ s.retain → min ≡ s.min → bits ≡ s.bits → max ≡ s.max
    → record { extent = extent; extents = extents; retain = retain; min = min; bits = bits; max = max } ≡ s
sizes_same s _ _ _ _ _ _ e1 e2 e3 e4 e5 e6 = rw (e1, e2, e3, e4, e5, e6) refl

empty_read : (s : Sizes) → catalogue_of s (replicate 21 0) ≡ Some empty_catalogue
empty_read s =
    let room : nat_le 0 s.retain ≡ true = le-leb 0 s.retain (omega arith) in
    rw room refl

-- every check of an opening passes
all_pass : (short gate magic number shape padding room : Bool) (found : Result Found Place)
    → short ≡ false → gate ≡ true → magic ≡ true → number ≡ true → shape ≡ true → padding ≡ true → room ≡ false
    → (if short then Err Short else (if not gate then Err Gate else (if not magic then Err Magic else (if not number then Err Number else (if not shape then Err Shape else (if not padding then Err Padding else (if room then Err Room else found))))))) ≡ found
all_pass _ _ _ _ _ _ _ found e1 e2 e3 e4 e5 e6 e7 = rw (e1, e2, e3, e4, e5, e6, e7) refl

newest_first : (open0 : Bool) (turn0 : ℕ) (open1 : Bool) (turn1 : ℕ) → open0 ≡ true → turn0 ≡ 0 → open1 ≡ false → newest_by open0 turn0 open1 turn1 ≡ Some 0
unfolding newest_by
newest_first _ _ _ turn1 e1 e2 e3 = rw (e1, e2, e3) refl

half_same : (s : Sizes) (turn length : ℕ) (other : Bool) → turn ≡ 0 → length ≡ 21 → other ≡ false
    → half_of 0 turn length other ≡ (fresh_found s).half
half_same s _ _ _ e1 e2 e3 = rw (e1, e2, e3) refl

module _ (s : Sizes) (image : List ℕ) (h : HoldsFresh s image) where
  -- the number that stands in the superblock at a place behind the gate
  number_at : (k n : ℕ) → k + 4 ≤ 63 → n < 2 ^ 32 → take 4 (drop k (superblock_body s)) ≡ four n → four_at image (1 + k) ≡ n
  number_at k n fits small is =
      ap (from_be_bytes w32) (sub_bytes 1 63 k 4 image fits ∙ ap (λ l. take 4 (drop k l)) h.body ∙ is) ∙ from_be_bytes-to_be_bytes_4 n small

  sizes : IsShape s.extent s.extents s.retain s.min s.bits s.max → sizes_at image ≡ s
  sizes is =
      let extent : four_at image 12 ≡ s.extent = number_at 11 s.extent (omega arith) (omega (arith, is.extent_high)) refl in
      let extents : four_at image 16 ≡ s.extents = number_at 15 s.extents (omega arith) (omega (arith, is.extents_high)) refl in
      let retain : four_at image 20 ≡ s.retain = number_at 19 s.retain (omega arith) (omega (arith, is.retain_high)) refl in
      let min : four_at image 24 ≡ s.min = number_at 23 s.min (omega arith) (omega (arith, is.min_high)) refl in
      let bits : four_at image 28 ≡ s.bits = number_at 27 s.bits (omega arith) (omega (arith, is.bits_high)) refl in
      let max : four_at image 32 ≡ s.max = number_at 31 s.max (omega arith) (omega (arith, is.max_high)) refl in
      sizes_same s _ _ _ _ _ _ extent extents retain min bits max

  -- a byte and a part of the half
  byte_in_half : (k : ℕ) → k < 32 → byte_at image (half_place s 0 + k) ≡ get_or fresh_half k 0
  byte_in_half k lt =
      let place : half_place s 0 + k ≡ 64 + k = omega arith in
      ap (byte_at image) place ∙ sym (get_or-bytes_at 64 32 image k lt) ∙ ap (λ l. get_or l k 0) h.half

  part_of_half : (k n : ℕ) → k + n ≤ 32 → bytes_at (half_place s 0 + k) n image ≡ take n (drop k fresh_half)
  part_of_half k n fits =
      let place : half_place s 0 + k ≡ 64 + k = omega arith in
      ap (λ at. bytes_at at n image) place ∙ sub_bytes 64 32 k n image fits ∙ ap (λ l. take n (drop k l)) h.half

  newest : newest_half s image ≡ Some 0
  newest =
      let place : half_place s 0 ≡ half_place s 0 + 0 = omega arith in
      let first : byte_at image (half_place s 0) ≡ open_gate = ap (byte_at image) place ∙ byte_in_half 0 (omega arith) in
      newest_first _ _ _ _ (eq-eqb (byte_at image (half_place s 0)) open_gate first) (byte_in_half 1 (omega arith)) h.other

  half_is : half_at s image 0 ≡ (fresh_found s).half
  half_is = half_same s _ _ _ (byte_in_half 1 (omega arith)) (ap (from_be_bytes w64) (part_of_half 2 8 (omega arith))) h.other

  found_is : opened_half s image (Some 0) ≡ Ok (fresh_found s)
  found_is =
      let half = (fresh_found s).half in
      let room : nat_le 21 (payload_room s) ≡ true = le-leb 21 (payload_room s) (omega arith) in
      ap (λ half. if nat_le half.length (payload_room s) then opened_payload s half image (catalogue_of s (payload_of s half image)) else Err Payload) half_is
      ∙ ap (λ b. if b then opened_payload s half image (catalogue_of s (payload_of s half image)) else Err Payload) room
      ∙ ap (opened_payload s half image) (ap (catalogue_of s) (part_of_half 10 21 (omega arith)) ∙ empty_read s)

  pub opened_fresh : IsShape s.extent s.extents s.retain s.min s.bits s.max → byte_at image 0 ≡ open_gate → opened image ≡ Ok (fresh_found s)
  opened_fresh is gate =
      let short : nat_lt (length image) 64 ≡ false = le-ltb (length image) 64 (omega (arith, h.room)) in
      let mark : bytes_at 1 7 image ≡ magic = sub_bytes 1 63 0 7 image (omega arith) ∙ ap (take 7) h.body in
      let padding : bytes_at 36 28 image ≡ replicate 28 0 = sub_bytes 1 63 35 28 image (omega arith) ∙ ap (λ l. take 28 (drop 35 l)) h.body in
      opened-is image
      ∙ ap (λ t. opened_by t (length image) (byte_at image 0) (bytes_at 1 7 image) (four_at image 8) (bytes_at 36 28 image) (opened_half t image (newest_half t image))) (sizes is)
      ∙ all_pass _ _ _ _ _ _ _ _ short
      (eq-eqb (byte_at image 0) open_gate gate)
      (ap (λ l. bytes_eq l magic) mark)
      (ap (λ n. n == 1) (number_at 7 1 (omega arith) (omega arith) refl))
      (shape_holds s is)
      (ap (λ l. bytes_eq l (replicate 28 0)) padding)
      (le-ltb (length image) (disk_bytes s) h.room)
      ∙ ap (opened_half s image) newest
      ∙ found_is
