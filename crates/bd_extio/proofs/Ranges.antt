-- What a piece of a range is on the disk, and what writing it changes.
use Rattle.std.proofs.Common.{◌≡◌, inl, inr, ⊎_elim, ℕ, zero, suc, ◌∷◌, ◌+◌, ◌-◌, ◌*◌, ◌%◌, ◌<◌, ◌≤◌, List, ◌++◌, length, take, drop, get_or, refl, sym, ◌∙◌, ap, arith, length-take, length-drop, get_or-take, get_or-drop, length-append, drop-drop}
use Rattle.std.proofs.lemmas.Grind.{same_number_lists}
use Rattle.std.proofs.lemmas.List.{get_or-append_right, get_or_append_left}
use Rattle.std.proofs.lemmas.Bool.{cases_lt}
use Rattle.std.proofs.Math.Seq.{take-add}
use Rattle.std.proofs.lemmas.Slice.{take-put_mid}
use borrow.Rule.Slice.PartMut.{put_mid}
use Rattle.std.specs.List.{All, range_with_len}
use Rattle.bd_disk.specs.Trace.{upward}
use Rattle.bd_disk.specs.Images.{InRange, bytes_at, overwritten}
use Rattle.bd_disk.proofs.AgreeLemmas.{in_range, length-overwritten, overwritten_there, overwritten_elsewhere, length-bytes_at, get_or-bytes_at}
use Rattle.bd_model.specs.Sizes.{Sizes, disk_bytes}
use Rattle.bd_model.specs.Extents.{owner_bytes, owner_places, places_at}
use Rattle.bd_extio.specs.Ranges.{place_of, AreExtents, InOwner, owner_range}
use Rattle.bd_extio.proofs.Places.{place_of-next, place_of-injective, places_at-piece, place_of-room, length-owner_bytes, get_or-owner_bytes}

-- what stands at a place of an overwritten range
pub overwritten_at : (xs : List ℕ) (at : ℕ) (bytes : List ℕ) (place : ℕ) → InRange at (length bytes) place → place < length xs → get_or (overwritten xs at bytes) place 0 ≡ get_or bytes (place - at) 0
overwritten_at xs at bytes place r lt =
    let from = r.0 in
    let e : at + (place - at) ≡ place = omega (arith, from) in
    ap (λ n. get_or (overwritten xs at bytes) n 0) (sym e) ∙ overwritten_there xs at bytes (place - at) (omega (arith, r.1)) (omega arith)

-- bytes written one behind the other
pub overwritten-append : (xs : List ℕ) (at : ℕ) (first second : List ℕ) → at + length first + length second ≤ length xs →
    overwritten (overwritten xs at first) (at + length first) second ≡ overwritten xs at (first ++ second)
overwritten-append xs at first second fits =
    let before = overwritten xs at first in
    let sized : length before ≡ length xs = length-overwritten xs at first in
    let both : length (first ++ second) ≡ length first + length second = length-append first second in
    same_number_lists _ _ (length-overwritten before (at + length first) second ∙ sized ∙ sym (length-overwritten xs at (first ++ second))) (λ p lt.
    let in_xs : p < length xs = omega (arith, length-overwritten before (at + length first) second, sized) in
    elim (in_range (at + length first) (length second) p) [
      | inl r ↦
          let index : p - at - length first ≡ p - (at + length first) = omega arith in
          overwritten_at before (at + length first) second p r (omega arith)
          ∙ ap (λ n. get_or second n 0) (sym index)
          ∙ sym (overwritten_at xs at (first ++ second) p (omega (arith, r.0), omega (arith, r.1, both)) in_xs ∙ get_or-append_right first second (length first) (p - at) 0 refl (omega (arith, r.0)))
      | inr past ↦ overwritten_elsewhere before (at + length first) second p past ∙ elim (in_range at (length first) p) [
        | inl r ↦ overwritten_at xs at first p r in_xs
            ∙ sym (overwritten_at xs at (first ++ second) p (r.0, omega (arith, r.1, both)) in_xs ∙ get_or_append_left first second 0 (p - at) (omega (arith, r.0, r.1)))
        | inr out ↦ overwritten_elsewhere xs at first p out
            ∙ sym (overwritten_elsewhere xs at (first ++ second) p (λ r. ⊎_elim (λ lt. out (r.0, lt)) (λ le. past (le, omega (arith, r.1, both))) (cases_lt p (at + length first))))
      ]
    ])

module _ (s : Sizes) (extents : List ℕ) (some : 1 ≤ s.extent) (image : List ℕ) (room : disk_bytes s ≤ length image) where
  -- a piece within one extent lies there in one piece
  pub owner_range-piece : All (λ e. e < s.extents) extents → (at n : ℕ) → 1 ≤ n → at + n ≤ length extents * s.extent → at % s.extent + n ≤ s.extent →
      owner_range s extents at n image ≡ bytes_at (place_of s extents at) n image
  owner_range-piece below at n one fits inside =
      let sized : length (owner_range s extents at n image) ≡ n = omega (arith, length-take n (drop at (owner_bytes s extents image)), length-drop at (owner_bytes s extents image), length-owner_bytes s extents some below image room) in
      let place = place_of s extents at in
      let last : place + n ≤ length image = omega (arith, place_of-room s extents some below at n one fits inside) in
      let other : length (bytes_at place n image) ≡ n = omega (arith, length-bytes_at place n image) in
      same_number_lists _ _ (sized ∙ sym other) (λ k lt.
      let in_n : k < n = omega (arith, sized) in
      get_or-take n (drop at (owner_bytes s extents image)) k 0 in_n ∙ get_or-drop at (owner_bytes s extents image) k 0
      ∙ get_or-owner_bytes s extents some below image room (at + k) (omega arith)
      ∙ ap (λ m. get_or image m 0) (place_of-next s extents some at k (omega arith))
      ∙ sym (get_or-bytes_at place n image k in_n))

  -- to write it there is to write it into the owner's bytes
  pub owner_bytes-written : AreExtents s extents → (at : ℕ) (bytes : List ℕ) → 1 ≤ length bytes → at + length bytes ≤ length extents * s.extent → at % s.extent + length bytes ≤ s.extent →
      owner_bytes s extents (overwritten image (place_of s extents at) bytes) ≡ overwritten (owner_bytes s extents image) at bytes
  owner_bytes-written are at bytes one fits inside =
      let q = place_of s extents at in
      let n = length bytes in
      let written = overwritten image q bytes in
      let room_then : disk_bytes s ≤ length written = omega (arith, length-overwritten image q bytes) in
      let before = owner_bytes s extents image in
      let size_before : length before ≡ length extents * s.extent = length-owner_bytes s extents some are.below image room in
      let size_after : length (owner_bytes s extents written) ≡ length extents * s.extent = length-owner_bytes s extents some are.below written room_then in
      same_number_lists _ _ (size_after ∙ sym size_before ∙ sym (length-overwritten before at bytes)) (λ p lt.
      let in_p : p < length extents * s.extent = omega (arith, size_after) in
      get_or-owner_bytes s extents some are.below written room_then p in_p
      ∙ elim (in_range at n p) [
        | inl r ↦
            let k : at + (p - at) ≡ p = omega (arith, r.0) in
            let there : place_of s extents p ≡ q + (p - at) = ap (place_of s extents) (sym k) ∙ place_of-next s extents some at (p - at) (omega (arith, r.1)) in
            ap (λ m. get_or written m 0) there
            ∙ overwritten_there image q bytes (p - at) (omega (arith, r.0, r.1)) (omega (arith, place_of-room s extents some are.below at n one fits inside, r.0, r.1))
            ∙ sym (overwritten_at before at bytes p r (omega (arith, size_before)))
        | inr out ↦
            overwritten_elsewhere image q bytes (place_of s extents p) (λ r.
            let k = place_of s extents p - q in
            let is : place_of s extents p ≡ place_of s extents (at + k) = sym (place_of-next s extents some at k (omega (arith, r.0, r.1, inside)) ∙ omega (arith, r.0)) in
            let same : p ≡ at + k = place_of-injective s extents some are p (at + k) in_p (omega (arith, r.0, r.1)) is in
            out (omega (arith, same), omega (arith, same, r.0, r.1)))
            ∙ sym (get_or-owner_bytes s extents some are.below image room p in_p)
            ∙ sym (overwritten_elsewhere before at bytes p out)
      ])

  -- one piece more was read
  pub read_more : All (λ e. e < s.extents) extents → (at done n k : ℕ) (into piece : List ℕ) → 1 ≤ n → at + done + n ≤ length extents * s.extent → (at + done) % s.extent + n ≤ s.extent → done ≤ length into →
      length piece ≡ n → take done into ≡ owner_range s extents at done image → piece ≡ bytes_at (place_of s extents (at + done)) n image →
      take (done + n) (put_mid done k into piece) ≡ owner_range s extents at (done + n) image
  read_more below at done n k into piece one fits inside within sized taken is =
      let owner = owner_bytes s extents image in
      take-put_mid done k into piece (done + n) (omega (arith, sized)) within
      ∙ (λ i. taken i ++ (is ∙ sym (owner_range-piece below (at + done) n one fits inside)) i)
      ∙ sym (take-add done n (drop at owner) ∙ ap (λ l. take done (drop at owner) ++ take n l) (drop-drop done at owner))

  -- and its places
  pub places_more : (at done n : ℕ) → at + done + n ≤ length extents * s.extent → (at + done) % s.extent + n ≤ s.extent →
      places_at s extents at done ++ range_with_len (place_of s extents (at + done)) n ≡ places_at s extents at (done + n)
  places_more at done n fits inside =
      let places = owner_places s extents in
      ap (λ l. places_at s extents at done ++ l) (sym (places_at-piece s extents some (at + done) n fits inside))
      ∙ sym (take-add done n (drop at places) ∙ ap (λ l. take done (drop at places) ++ take n l) (drop-drop done at places))

-- one piece more was written
pub write_more : (s : Sizes) (extents : List ℕ) → 1 ≤ s.extent → (image now : List ℕ) → disk_bytes s ≤ length image → length now ≡ length image → AreExtents s extents → (at done n : ℕ) (from : List ℕ) → 1 ≤ n → done + n ≤ length from → at + length from ≤ length extents * s.extent → (at + done) % s.extent + n ≤ s.extent →
    owner_bytes s extents now ≡ overwritten (owner_bytes s extents image) at (take done from) →
    owner_bytes s extents (overwritten now (place_of s extents (at + done)) (bytes_at done n from)) ≡ overwritten (owner_bytes s extents image) at (take (done + n) from)
write_more s extents some image now room same are at done n from one within fits inside written =
    let piece = bytes_at done n from in
    let owner = owner_bytes s extents image in
    let long : length piece ≡ n = omega (arith, length-bytes_at done n from) in
    let first : length (take done from) ≡ done = omega (arith, length-take done from) in
    let sized : length owner ≡ length extents * s.extent = length-owner_bytes s extents some are.below image room in
    owner_bytes-written s extents some now (omega (arith, same)) are (at + done) piece (omega (arith, long)) (omega (arith, long)) (omega (arith, long))
    ∙ (λ k. overwritten (written k) (at + sym first k) piece)
    ∙ overwritten-append owner at (take done from) piece (omega (arith, first, long, sized))
    ∙ ap (overwritten owner at) (sym (take-add done n from))

-- a piece lies among the bytes of the owner
pub piece_in_owner : (s : Sizes) (extents : List ℕ) → 1 ≤ s.extent → (at done n total place : ℕ) → done + n ≤ total → (at + done) % s.extent + n ≤ s.extent → InRange (place_of s extents (at + done)) n place → InOwner s extents at total place
piece_in_owner s extents some at done n total place within inside r =
    let k = place - place_of s extents (at + done) in
    let where_ : at + (done + k) ≡ at + done + k = omega arith in
    record {
      k = done + k;
      within = omega (arith, r.0, r.1);
      so = omega (arith, r.0) ∙ sym (ap (place_of s extents) where_ ∙ place_of-next s extents some (at + done) k (omega (arith, r.0, r.1)));
    }

-- places that a read names one by one
pub upward-range : (at n : ℕ) → upward at n ≡ range_with_len at n
unfolding upward
upward-range at zero = refl
upward-range at (suc n) = ap (λ l. at ∷ l) (upward-range (at + 1) n)
