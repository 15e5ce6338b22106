-- What is replayed of an image where other bytes stand behind the records of its log.
use Rattle.std.proofs.Common.{◌≡◌, ◌≢◌, ℕ, suc, ◌+◌, ◌-◌, ◌<◌, ◌≤◌, ◌^◌, List, [], ◌∷◌, ◌++◌, length, take, drop, get_or, sym, ◌∙◌, ap, arith, append_assoc, Option, Some, take-append-drop}
use Rattle.std.proofs.Math.Seq.{drop-cons}
use Rattle.bd_disk.specs.Images.{InRange, Agree, bytes_at}
use Rattle.bd_disk.proofs.AgreeLemmas.{get_or-bytes_at, length-bytes_at, same_bytes_at, sub_bytes}
use Rattle.bd_model.specs.Records.{four}
use Rattle.bd_gate.specs.Superblock.{open_gate, closed_gate, byte_at}
use Rattle.bd_gate.specs.Replays.{HasLog, Replayed, logged, record_frame, replayed}
use Rattle.bd_gate.proofs.Growing.{grows, stays}
use Rattle.bd_gate.proofs.Pieces.{replayed_has}

-- The log has this room from this place on. The two agree there, but for n bytes from its end on.
module _ (S : Type 0) (act : S → List ℕ → Option S) (st : S) (m at room n : ℕ) (old image : List ℕ) (r : Replayed S) (is : replayed m act st at (bytes_at at room old) ≡ Some r) (deep : room ≤ m) (within : at + room ≤ length old)
    (one : 1 ≤ n) (fits : r.log_end + n ≤ at + room) (room_is : 1 ≤ room) (but : Agree (λ p. InRange at room p × (InRange r.log_end n p → ⊥)) old image) where
  abbrev used : ℕ
  used = r.log_end - at

  long : length (bytes_at at room old) ≡ room
  long = omega (arith, length-bytes_at at room old, within)

  long_now : length (bytes_at at room image) ≡ room
  long_now = omega (arith, length-bytes_at at room image, within, but.size)

  some : 1 ≤ length (bytes_at at room old)
  some = omega (arith, long, room_is)

  has : HasLog S act st at (bytes_at at room old) r
  has = replayed_has S act m st at (bytes_at at room old) r some is

  begins : at ≤ r.log_end
  begins = omega (arith, has.end)

  lt : used < room
  lt = omega (arith, fits, begins, one)

  front : take used (bytes_at at room image) ≡ take used (bytes_at at room old)
  front =
      let fewer : 0 + used ≤ room = omega (arith, lt) in
      sym (sub_bytes at room 0 used image fewer)
      ∙ same_bytes_at (λ p. InRange at room p × (InRange r.log_end n p → ⊥)) old image (at + 0) used (λ p i. ((omega (arith, i.0), omega (arith, i.1, lt)), λ q. omega (arith, i.1, q.0, begins))) but
      ∙ sub_bytes at room 0 used old fewer

  -- the byte of the gate among those of the log
  gate_is : get_or (bytes_at at room image) used 0 ≡ byte_at image r.log_end
  gate_is =
      let here : at + used ≡ r.log_end = omega (arith, begins) in
      get_or-bytes_at at room image used lt ∙ ap (λ p. get_or image p 0) here

  apart_at_gate : bytes_at at room image ≡ take used (bytes_at at room old) ++ (byte_at image r.log_end ∷ drop (suc used) (bytes_at at room image))
  apart_at_gate =
      sym (take-append-drop used (bytes_at at room image))
      ∙ (λ i. front i ++ drop-cons (bytes_at at room image) used 0 (omega (arith, lt, long_now)) i)
      ∙ ap (λ g. take used (bytes_at at room old) ++ (g ∷ drop (suc used) (bytes_at at room image))) gate_is

  -- where the gate is closed, the log stays
  pub keeps_log : byte_at image r.log_end ≢ open_gate → replayed m act st at (bytes_at at room image) ≡ Some r
  keeps_log shut =
      stays S act st at m (bytes_at at room old) r some is (bytes_at at room image) (byte_at image r.log_end) (drop (suc used) (bytes_at at room image)) (omega (arith, long_now, deep)) shut apart_at_gate

  closed : closed_gate ≢ open_gate
  closed same = cc

  -- where it is open and a record stands behind it, the log goes on by that record
  pub appends_log : (it : List ℕ) (after : S) → n ≡ 1 + length (record_frame it) → byte_at image r.log_end ≡ open_gate → bytes_at (r.log_end + 1) (length (record_frame it)) image ≡ record_frame it → length it < 2 ^ 32 → act r.state it ≡ Some after
      → replayed m act st at (bytes_at at room image) ≡ Some (record { state = after; log_end = r.log_end + 5 + length it })
  appends_log it after size gate there small taken =
      let frame : List ℕ = record_frame it in
      let k = length frame in
      let tail : List ℕ = drop (suc used) (bytes_at at room image) in
      let place : at + suc used ≡ r.log_end + 1 = omega (arith, begins) in
      let stands : take k tail ≡ frame = sym (sub_bytes at room (suc used) k image (omega (arith, fits, begins, size))) ∙ ap (λ p. bytes_at p k image) place ∙ there in
      let whole : tail ≡ frame ++ drop k tail = sym (take-append-drop k tail) ∙ ap (λ b. b ++ drop k tail) stands in
      let rest : List ℕ = drop k tail in
      let over : open_gate ∷ (frame ++ rest) ≡ logged it ++ (closed_gate ∷ rest) =
      ap (λ b. open_gate ∷ b)
      (append_assoc (four (length it)) (it ++ (closed_gate ∷ [])) rest
      ∙ ap (λ b. four (length it) ++ b) (append_assoc it (closed_gate ∷ []) rest)
      ∙ sym (append_assoc (four (length it)) it (closed_gate ∷ rest))) in
      grows S act st at m (bytes_at at room old) r some is (bytes_at at room image) it after closed_gate rest (omega (arith, long_now, deep)) closed small taken
      (apart_at_gate ∙ (λ i. take used (bytes_at at room old) ++ (gate i ∷ whole i)) ∙ ap (λ b. take used (bytes_at at room old) ++ b) over)
