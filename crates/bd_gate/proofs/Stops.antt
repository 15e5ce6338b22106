-- What a stop within a commit leaves, and what each of its steps leaves behind.
use Rattle.std.proofs.Common.{◌≡◌, inl, inr, ⊎_elim, add-zero, ℕ, ◌+◌, ◌-◌, ◌*◌, ◌%◌, ◌<◌, ◌≤◌, Bool, true, false, eqb, List, [], ◌∷◌, length, take, drop, get_or, Some, refl, sym, ◌∙◌, ap, subst, arith, take-take, length-take}
use Rattle.std.proofs.Math.Seq.{take-length}
use Rattle.bd_disk.specs.Images.{InRange, AgreeBut, overwritten}
use Rattle.bd_disk.specs.History.{History, clock, contents}
use Rattle.bd_disk.specs.Made.{LeavesNow, LeavesSince, IsSettled, Stores, WritesOnly}
use Rattle.bd_disk.proofs.AgreeLemmas.{overwritten_there, overwritten_elsewhere, overwrite_agrees, bytes_at-overwritten, agree_trans}
use Rattle.bd_disk.proofs.Frames.{contents_now, now_since, later, leaves_and, leaves_by_writes, leaves_now, leaves_both, leaves_same, leaves_wider, same_contents, settled_sure}
use Rattle.bd_model.specs.Sizes.{Sizes, half_bytes, half_place}
use Rattle.bd_gate.specs.Superblock.{byte_at, open_gate, closed_gate}
use Rattle.bd_gate.specs.Halves.{is_open, turn_at, newest_half, InHalf}
use Rattle.bd_gate.specs.Standing.{behind, SameStanding, HasFrame, IsEither, IsCommitted, IsOldHalfOrCommitted, IsOlderHalf, IsNextTurn, BeginsNextTurn}
use Rattle.bd_gate.proofs.Newest.{place, opened, turn, newest_is_open, places, other_twice}
use Rattle.bd_gate.proofs.StandingLemmas.{bytes_behind, newest_of_standing, same_halves, filling_image, closing_image, opening_image, opened_image, IsOpenWith}

half_is_long : (s : Sizes) → 1 < half_bytes s
half_is_long s = omega arith

-- the contents at the end are one of the images
pub contents_left : {P : List ℕ → Type 0} {a b : History} → LeavesSince P a b → P (contents b)
contents_left {P} {a} {b} leaves = leaves.each (contents b) (now_since b (clock a) (contents b) (later leaves.made) (contents_now b))

-- all bytes behind the gate, as a frame
whole_frame : (s : Sizes) (number : ℕ) (a image : List ℕ) → IsOpenWith (half_bytes s) number (bytes_behind (half_bytes s) a number) image → HasFrame s number (behind s a number) image
whole_frame s number a image is = record { newest = is.0; holds = ap (take (length (behind s a number))) is.1 ∙ take-length (behind s a number) }

-- ---- by what is written

module _ (s : Sizes) (number : ℕ) (a b : History) (lt : number < 2) where
  pub close_stops : IsOlderHalf s number true a → WritesOnly (InRange (half_place s number) 1) a b → LeavesSince (SameStanding s (contents a)) a b
  close_stops beside writes =
      leaves_by_writes _ writes (λ before image now but.
      closing_image (half_bytes s) number (contents a) before image lt (half_is_long s) beside.newest beside.gate (beside.sure.each before now) but)

  pub fill_stops : (n : ℕ) → n + 1 ≤ half_bytes s → IsOlderHalf s number false a → WritesOnly (InRange (half_place s number + 1) n) a b → LeavesSince (SameStanding s (contents a)) a b
  fill_stops n fits beside writes =
      leaves_by_writes _ writes (λ before image now but.
      filling_image (half_bytes s) number n (contents a) before image lt fits (half_is_long s) beside.newest beside.gate (beside.sure.each before now) but)

  pub open_stops : IsOlderHalf s number false a → IsNextTurn s number (contents a) → WritesOnly (InRange (half_place s number) 1) a b → LeavesSince (IsEither s number (behind s (contents a) number) (contents a)) a b
  open_stops beside next writes =
      leaves_by_writes _ writes (λ before image now but.
      ⊎_elim (λ same. inl same) (λ is. inr (whole_frame s number (contents a) image is))
      (opening_image (half_bytes s) number (contents a) before image lt (half_is_long s) beside.newest next (beside.sure.each before now) but))

-- ---- at the end of each step, for halves of one size

-- a byte that was written
gate_written : (size number g : ℕ) (a : List ℕ) → number < 2 → 1 < size → 64 + 2 * size ≤ length a → byte_at (overwritten a (place size number) (g ∷ [])) (place size number) ≡ g
gate_written size number g a lt long room =
    let p = places size number lt in
    rw add-zero at (overwritten_there a (place size number) (g ∷ []) 0 (omega arith) (omega (arith, p.this_to)))

-- the turn of the other half stays where this one is written
other_turn_kept : (size number at : ℕ) (bytes a : List ℕ) → number < 2 → 1 < size → place size number ≤ at → at + length bytes ≤ place size number + size → turn size (overwritten a at bytes) (1 - number) ≡ turn size a (1 - number)
other_turn_kept size number at bytes a lt long from to =
    let p = places size number lt in
    overwritten_elsewhere a at bytes (place size (1 - number) + 1) (λ r. ⊎_elim (λ e. omega (arith, e, r.0, r.1)) (λ e. omega (arith, e, r.0, r.1)) p.apart)

other_gate_kept : (size number at : ℕ) (bytes a : List ℕ) → number < 2 → 1 < size → place size number ≤ at → at + length bytes ≤ place size number + size → opened size (overwritten a at bytes) (1 - number) ≡ opened size a (1 - number)
other_gate_kept size number at bytes a lt long from to =
    let p = places size number lt in
    ap (λ g. eqb g 79) (overwritten_elsewhere a at bytes (place size (1 - number)) (λ r. ⊎_elim (λ e. omega (arith, e, r.0, r.1)) (λ e. omega (arith, e, r.0, r.1)) p.apart))

-- a write behind the gate leaves the gate
gate_kept : (size number : ℕ) (bytes a : List ℕ) → opened size (overwritten a (place size number + 1) bytes) number ≡ opened size a number
gate_kept size number bytes a = ap (λ g. eqb g 79) (overwritten_elsewhere a (place size number + 1) bytes (place size number) (λ r. omega (arith, r.0)))

-- and puts the turn of a frame
turn_written : (size number : ℕ) (frame a : List ℕ) → number < 2 → 1 ≤ length frame → length frame + 1 ≤ size → 64 + 2 * size ≤ length a → turn size (overwritten a (place size number + 1) frame) number ≡ get_or frame 0 0
turn_written size number frame a lt some fits room =
    let p = places size number lt in
    rw add-zero at (overwritten_there a (place size number + 1) frame 0 (omega arith) (omega (arith, p.this_to)))

-- and the frame at the front of the bytes behind it
front_written : (size number : ℕ) (frame a : List ℕ) → number < 2 → length frame + 1 ≤ size → 64 + 2 * size ≤ length a → take (length frame) (bytes_behind size (overwritten a (place size number + 1) frame) number) ≡ frame
front_written size number frame a lt fits room =
    let p = places size number lt in
    take-take (length frame) (size - 1) (drop (place size number + 1) (overwritten a (place size number + 1) frame)) (omega arith)
    ∙ bytes_at-overwritten a (place size number + 1) frame (omega (arith, p.this_to))

-- a list that begins with another has what that begins with
begins_as : (frame whole bytes : List ℕ) → take (length whole) bytes ≡ whole → take (length frame) whole ≡ frame → take (length frame) bytes ≡ frame
begins_as frame whole bytes same front =
    let short : length frame ≤ length whole = omega (arith, length-take (length frame) whole, ap length front) in
    sym (take-take (length frame) (length whole) bytes short) ∙ ap (take (length frame)) same ∙ front

gate_is_no_turn : (size number : ℕ) → number < 2 → 1 < size → InRange (place size number) 1 (place size (1 - number) + 1) → ⊥
gate_is_no_turn size number lt long r = let p = places size number lt in ⊎_elim (λ e. omega (arith, e, r.0, r.1)) (λ e. omega (arith, e, r.0, r.1)) p.apart

-- ---- at the end of each step

module _ (s : Sizes) (number : ℕ) (lt : number < 2) where
  -- the halves after a write and a sync that left the newest half
  still_beside : (opened_now : Bool) {at : ℕ} {bytes : List ℕ} {a b : History} → newest_half s (contents a) ≡ Some (1 - number) → LeavesSince (SameStanding s (contents a)) a b → Stores at bytes a b → is_open s (contents b) number ≡ opened_now → IsOlderHalf s number opened_now b
  still_beside opened_now {at} {bytes} {a} {b} newest_was stops stores gate = record {
    newest = newest_of_standing (half_bytes s) (contents a) (contents b) (contents_left stops) ∙ newest_was;
    gate = gate;
    sure = settled_sure _ stores.settled;
  }

  pub close_done : (a b : History) → 64 + 2 * half_bytes s ≤ length (contents a) → IsOlderHalf s number true a → LeavesSince (SameStanding s (contents a)) a b → Stores (half_place s number) (closed_gate ∷ []) a b → IsOlderHalf s number false b
  close_done a b room beside stops stores =
      still_beside false beside.newest stops stores
      (ap (λ image. is_open s image number) stores.holds ∙ ap (λ g. eqb g 79) (gate_written (half_bytes s) number 0 (contents a) lt (half_is_long s) room))

  pub fill_done : (frame : List ℕ) (a b : History) → IsOlderHalf s number false a → LeavesSince (SameStanding s (contents a)) a b → Stores (half_place s number + 1) frame a b → IsOlderHalf s number false b
  fill_done frame a b beside stops stores =
      still_beside false beside.newest stops stores (ap (λ image. is_open s image number) stores.holds ∙ gate_kept (half_bytes s) number frame (contents a) ∙ beside.gate)

  pub fill_turn : (frame : List ℕ) (a b : History) → 1 ≤ length frame → length frame + 1 ≤ half_bytes s → 64 + 2 * half_bytes s ≤ length (contents a) → Stores (half_place s number + 1) frame a b
      → BeginsNextTurn s number frame (contents a) → IsNextTurn s number (contents b)
  fill_turn frame a b some fits room stores next =
      let this : turn_at s (overwritten (contents a) (half_place s number + 1) frame) number ≡ get_or frame 0 0 = turn_written (half_bytes s) number frame (contents a) lt some fits room in
      let other : turn_at s (overwritten (contents a) (half_place s number + 1) frame) (1 - number) ≡ turn_at s (contents a) (1 - number) =
      other_turn_kept (half_bytes s) number (half_place s number + 1) frame (contents a) lt (half_is_long s) (omega arith) (omega arith) in
      ap (λ image. turn_at s image number) stores.holds ∙ this ∙ next
      ∙ sym (ap (λ image. (turn_at s image (1 - number) + 1) % 3) stores.holds ∙ ap (λ t. (t + 1) % 3) other)

  -- the contents after the gate was opened, and so each image
  open_frame : (a b : History) → 64 + 2 * half_bytes s ≤ length (contents a) → IsOlderHalf s number false a → IsNextTurn s number (contents a) → Stores (half_place s number) (open_gate ∷ []) a b → HasFrame s number (behind s (contents a) number) (contents b)
  open_frame a b room beside next stores =
      let size = half_bytes s in
      let but = overwrite_agrees (contents a) (half_place s number) (open_gate ∷ []) in
      let gate = gate_written size number 79 (contents a) lt (half_is_long s) room in
      subst (HasFrame s number (behind s (contents a) number)) (sym stores.holds)
      (whole_frame s number (contents a) _ (opened_image size number (contents a) _ lt (half_is_long s) beside.newest next (record { size = but.size; each = λ at r. but.each at r.1 }) (ap (λ g. eqb g 79) gate)))

  pub open_done : (a b : History) → 64 + 2 * half_bytes s ≤ length (contents a) → IsOlderHalf s number false a → IsNextTurn s number (contents a) → Stores (half_place s number) (open_gate ∷ []) a b → LeavesNow (HasFrame s number (behind s (contents a) number)) b
  open_done a b room beside next stores = record {
    each = λ image now. subst (HasFrame s number (behind s (contents a) number)) (sym (stores.settled.each image now)) (open_frame a b room beside next stores);
  }

  pub open_next : (a b : History) → 64 + 2 * half_bytes s ≤ length (contents a) → IsOlderHalf s number false a → IsNextTurn s number (contents a) → Stores (half_place s number) (open_gate ∷ []) a b → IsOlderHalf s (1 - number) true b
  open_next a b room beside next stores = record {
    newest = (open_frame a b room beside next stores).newest ∙ ap Some (sym (other_twice number lt));
    gate = ap (λ image. is_open s image (1 - number)) stores.holds
        ∙ other_gate_kept (half_bytes s) number (half_place s number) (open_gate ∷ []) (contents a) lt (half_is_long s) (omega arith) (omega arith)
        ∙ (newest_is_open (half_bytes s) number (contents a) lt beside.newest).0;
    sure = settled_sure _ stores.settled;
  }

  -- where nothing is done
  pub nothing_stops : (opened_now : Bool) (a : History) → IsOlderHalf s number opened_now a → LeavesSince (SameStanding s (contents a)) a a
  nothing_stops opened_now a beside = leaves_same refl (record { each = λ image now. same_halves (half_bytes s) (contents a) image (half_is_long s) (beside.sure.each image now) })

  -- the gate of this half is no part of the turn of the other
  pub turn_stays : (frame : List ℕ) (a b : History) → WritesOnly (InRange (half_place s number) 1) a b → BeginsNextTurn s number frame (contents a) → BeginsNextTurn s number frame (contents b)
  turn_stays frame a b writes next =
      next ∙ sym (ap (λ t. (t + 1) % 3) ((same_contents writes).each (half_place s (1 - number) + 1) (λ r. gate_is_no_turn (half_bytes s) number lt (half_is_long s) r)))

  -- ---- all steps of a commit: closed, filled and opened

  pub frame_stands : (frame : List ℕ) (b c : History) (image : List ℕ) → length frame + 1 ≤ half_bytes s → 64 + 2 * half_bytes s ≤ length (contents b) → Stores (half_place s number + 1) frame b c → HasFrame s number (behind s (contents c) number) image → HasFrame s number frame image
  frame_stands frame b c image fits room stores has = record {
    newest = has.newest;
    holds = begins_as frame (behind s (contents c) number) (behind s image number) has.holds
        (ap (λ filled. take (length frame) (behind s filled number)) stores.holds ∙ front_written (half_bytes s) number frame (contents b) lt fits room);
  }

  -- what is the same as in b is the same as in a
  same_twice : {a b : History} → LeavesSince (SameStanding s (contents a)) a b → {c d : History} → LeavesSince (SameStanding s (contents b)) c d → LeavesSince (SameStanding s (contents a)) c d
  same_twice first second = leaves_wider _ (λ image same. same ∙ contents_left first) second

  -- the first two steps
  pub closed_filled : (a b c : History) → LeavesSince (SameStanding s (contents a)) a b → LeavesSince (SameStanding s (contents b)) b c → LeavesSince (SameStanding s (contents a)) a c
  closed_filled a b c closing filling = leaves_both closing (same_twice closing filling)

  pub as_old : (frame old : List ℕ) {a b : History} → LeavesSince (SameStanding s old) a b → LeavesSince (IsOldHalfOrCommitted s number frame old) a b
  as_old frame old leaves = leaves_wider _ (λ image same. inl same) leaves

  -- once all that was written is sure, each image is the contents but for the half
  elsewhere_since : (a c d : History) → IsSettled c → WritesOnly (InHalf s number) a c → WritesOnly (InHalf s number) c d → LeavesSince (AgreeBut (InHalf s number) (contents a)) c d
  elsewhere_since a c d settled before writes =
      leaves_by_writes _ writes (λ moment image now but.
      agree_trans _ (contents a) (contents c) image (same_contents before) (subst (λ l. AgreeBut (InHalf s number) l image) (settled.each moment now) but))

  -- and the third
  module _ (frame : List ℕ) (a b c d : History) (fits : length frame + 1 ≤ half_bytes s) (room : 64 + 2 * half_bytes s ≤ length (contents b)) (stores : Stores (half_place s number + 1) frame b c)
      (before : WritesOnly (InHalf s number) a c) (writes : WritesOnly (InHalf s number) c d) where
    pub commit_stops : LeavesSince (SameStanding s (contents a)) a b → LeavesSince (SameStanding s (contents b)) b c → LeavesSince (IsEither s number (behind s (contents c) number) (contents c)) c d
        → LeavesSince (IsOldHalfOrCommitted s number frame (contents a)) a d
    commit_stops closing filling opening =
        let first = closed_filled a b c closing filling in
        leaves_both (as_old frame (contents a) first)
        (leaves_wider _
        (λ image both. ⊎_elim (λ same. inl (same ∙ contents_left first)) (λ has. inr (record { stands = frame_stands frame b c image fits room stores has; elsewhere = both.1 })) both.0)
        (leaves_and opening (elsewhere_since a c d stores.settled before writes)))

    pub commit_done : LeavesNow (HasFrame s number (behind s (contents c) number)) d → LeavesNow (IsCommitted s number frame (contents a)) d
    commit_done done = record {
      each = λ image now. record {
        stands = frame_stands frame b c image fits room stores (done.each image now);
        elsewhere = (leaves_now (elsewhere_since a c d stores.settled before writes)).each image now;
      };
    }
