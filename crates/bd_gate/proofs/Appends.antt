-- What a stop within an append leaves, and what it makes of the log.
use Rattle.std.proofs.Common.{◌≡◌, inl, inr, ℕ, zero, suc, ◌+◌, ◌*◌, ◌<◌, ◌≤◌, Bool, true, false, eqb, List, [], ◌∷◌, length, refl, sym, ◌∙◌, ap, subst, arith}
use Rattle.std.proofs.lemmas.Bool.{eqb-true, eq-eqb}
use Rattle.bd_disk.specs.History.{History, contents, Now}
use Rattle.bd_disk.specs.Images.{InRange, Agree, AgreeBut, bytes_at, overwritten}
use Rattle.bd_disk.specs.Made.{LeavesSince, Stores, WritesOnly}
use Rattle.bd_disk.specs.Runs.{Writes}
use Rattle.bd_disk.specs.declared.disk.Disk.{Ghosts}
use Rattle.bd_disk.proofs.AgreeLemmas.{agree_fewer, agree_trans, overwrite_agrees, overwritten_there, bytes_at-overwritten, same_bytes_at}
use Rattle.bd_disk.proofs.Frames.{leaves_by_writes, settled_sure}
use Rattle.bd_disk.proofs.RunLemmas.{wider_writes}
use Rattle.bd_model.specs.Sizes.{Sizes, half_bytes, half_place}
use Rattle.bd_gate.specs.Halves.{newest_by, InHalves}
use Rattle.bd_gate.specs.Logs.{EndsShut, InRecord, IsKeptOrAppended, IsLogEnd, KeepsGate}
use Rattle.bd_gate.specs.Superblock.{open_gate, byte_at}
use Rattle.bd_gate.proofs.Commits.{byte_before}
use Rattle.bd_gate.proofs.Kept.{within_halves}
use Rattle.bd_gate.proofs.Newest.{newest, place}

-- ---- behind the front of a half

-- what lies there is no gate and no turn of a half
front_apart : (size number at n k p : ℕ) → number < 2 → place size number + 10 ≤ at → at + n ≤ place size number + size → k < 2 → place size k ≤ p → p < place size k + 2 → InRange at n p → ⊥
front_apart size zero at n zero p lt behind fits few from to r = omega (arith, r.0)
front_apart size zero at n (suc zero) p lt behind fits few from to r = omega (arith, r.1)
front_apart size (suc zero) at n zero p lt behind fits few from to r = omega (arith, r.0)
front_apart size (suc zero) at n (suc zero) p lt behind fits few from to r = omega (arith, r.0)
front_apart size (suc (suc number)) at n k p lt behind fits few from to r = omega (arith, lt)
front_apart size zero at n (suc (suc k)) p lt behind fits few from to r = omega (arith, few)
front_apart size (suc zero) at n (suc (suc k)) p lt behind fits few from to r = omega (arith, few)

-- so the newest half stays
newest_stays : (size number at n : ℕ) (a b : List ℕ) → number < 2 → place size number + 10 ≤ at → at + n ≤ place size number + size → AgreeBut (InRange at n) a b → newest size b ≡ newest size a
newest_stays size number at n a b lt behind fits but =
    let same : (k p : ℕ) → k < 2 → place size k ≤ p → p < place size k + 2 → byte_at b p ≡ byte_at a p =
    λ k p few from to. but.each p (front_apart size number at n k p lt behind fits few from to) in
    λ i. newest_by (eqb (same 0 (place size 0) (omega arith) (omega arith) (omega arith) i) 79) (same 0 (place size 0 + 1) (omega arith) (omega arith) (omega arith) i)
    (eqb (same 1 (place size 1) (omega arith) (omega arith) (omega arith) i) 79) (same 1 (place size 1 + 1) (omega arith) (omega arith) (omega arith) i)

-- ---- an append

module _ (s : Sizes) (number at : ℕ) (frame : List ℕ) (lt : number < 2) (fits : at + 1 + length frame ≤ half_place s number + half_bytes s) {a : History} (is : IsLogEnd s number at a) where
  -- the gate lies in the halves
  gate_inside : InHalves s at
  gate_inside = within_halves s number at lt (omega (arith, is.behind), omega (arith, fits))

  -- within the frame's write the gate is closed
  first_image : (before image : List ℕ) → Now a before → AgreeBut (InRange (at + 1) (length frame)) before image → KeepsGate s at (length frame) (contents a) image
  first_image before image now but =
      let sure : Agree (InHalves s) (contents a) before = is.sure.each before now in record {
        halves = agree_trans _ (contents a) before image
            (agree_fewer (InHalves s) _ (contents a) before (λ p inside. inside.0) sure)
            (agree_fewer (λ p. InRange (at + 1) (length frame) p → ⊥) _ before image (λ p inside r. inside.1 (omega (arith, r.0), omega (arith, r.1))) but);
        shut = λ e. is.shut (sym (but.each at (λ r. omega (arith, r.0)) ∙ sure.each at gate_inside) ∙ e);
      }

  pub frame_stops : {b : History} → WritesOnly (InRange (at + 1) (length frame)) a b → LeavesSince (IsKeptOrAppended s at frame (contents a)) a b
  frame_stops writes = leaves_by_writes (IsKeptOrAppended s at frame (contents a)) writes (λ before image now but. inl (first_image before image now but))

  module _ {b : History} (stores : Stores (at + 1) frame a b) (room : 64 + 2 * half_bytes s ≤ length (contents a)) where
    -- the record ends on the disk
    ends : at + 1 + length frame ≤ length (contents a)
    ends = omega (arith, (within_halves s number (at + length frame) lt (omega (arith, is.behind), omega (arith, fits))).1, room)

    -- the contents then, and so each image
    written : AgreeBut (InRange (at + 1) (length frame)) (contents a) (contents b)
    written = subst (AgreeBut (InRange (at + 1) (length frame)) (contents a)) (sym stores.holds) (overwrite_agrees (contents a) (at + 1) frame)

    -- within the gate's write it is closed, or the record stands
    second_image : (image : List ℕ) → AgreeBut (InRange at 1) (contents b) image → IsKeptOrAppended s at frame (contents a) image
    second_image image but =
        let elsewhere : AgreeBut (InRecord at (length frame)) (contents a) image =
        agree_trans _ (contents a) (contents b) image
        (agree_fewer (λ p. InRange (at + 1) (length frame) p → ⊥) _ (contents a) (contents b) (λ p out r. out (omega (arith, r.0), omega (arith, r.1))) written)
        (agree_fewer (λ p. InRange at 1 p → ⊥) _ (contents b) image (λ p out r. out (omega (arith, r.0), omega (arith, r.1))) but) in
        elim (eqb (byte_at image at) open_gate) as (λ (t : Bool). (eqb (byte_at image at) open_gate) ≡ t → IsKeptOrAppended s at frame (contents a) image) [
          | true ↦ λ opens. inr (record {
            gate = eqb-true (byte_at image at) open_gate opens;
            there = same_bytes_at (λ p. InRange at 1 p → ⊥) (contents b) image (at + 1) (length frame) (λ p inside r. omega (arith, inside.0, r.1)) but
                ∙ ap (bytes_at (at + 1) (length frame)) stores.holds
                ∙ bytes_at-overwritten (contents a) (at + 1) frame (omega (arith, ends));
            elsewhere = elsewhere;
          })
          | false ↦ λ shut. inl (record {
            halves = agree_fewer (λ p. InRecord at (length frame) p → ⊥) _ (contents a) image (λ p inside. inside.1) elsewhere;
            shut = λ e. let yes : (eqb (byte_at image at) open_gate) ≡ true = eq-eqb (byte_at image at) open_gate e in let no : true ≡ false = sym yes ∙ shut in cc;
          })
        ] refl

    pub gate_stops : {c : History} → WritesOnly (InRange at 1) b c → LeavesSince (IsKeptOrAppended s at frame (contents a)) b c
    gate_stops writes = leaves_by_writes (IsKeptOrAppended s at frame (contents a)) writes (λ before image now but. second_image image (subst (λ x. AgreeBut (InRange at 1) x image) (stores.settled.each before now) but))

    -- the open gate and the frame behind it
    pub append_stores : {c : History} → Stores at (open_gate ∷ []) b c → Stores at (open_gate ∷ frame) a c
    append_stores opening = record {
      holds = opening.holds ∙ ap (λ image. overwritten image at (open_gate ∷ [])) stores.holds ∙ byte_before (contents a) at open_gate frame;
      settled = opening.settled;
    }

    -- the next gate ends the log
    pub append_next : EndsShut frame → {c : History} → Stores at (open_gate ∷ frame) a c → IsLogEnd s number (at + length frame) c
    append_next shut {c} all =
        let but : AgreeBut (InRange at (suc (length frame))) (contents a) (contents c) = subst (AgreeBut (InRange at (suc (length frame))) (contents a)) (sym all.holds) (overwrite_agrees (contents a) at (open_gate ∷ frame)) in
        let last : byte_at (contents c) (at + length frame) ≡ byte_at (open_gate ∷ frame) (length frame) =
        ap (λ image. byte_at image (at + length frame)) all.holds ∙ overwritten_there (contents a) at (open_gate ∷ frame) (length frame) (omega arith) (omega (arith, ends)) in record {
          newest = newest_stays (half_bytes s) number at (suc (length frame)) (contents a) (contents c) lt is.behind (omega (arith, fits)) but ∙ is.newest;
          behind = omega (arith, is.behind);
          shut = λ e. shut (sym last ∙ e);
          sure = settled_sure _ all.settled;
        }

-- ---- where it writes

pub record_in : {D : Type 0} {g : Ghosts D} (at n : ℕ) {a b : D} → Writes g (InRange (at + 1) n) a b → Writes g (InRecord at n) a b
record_in at n writes = wider_writes _ (λ p r. (omega (arith, r.0), omega (arith, r.1))) writes

pub gate_in_record : {D : Type 0} {g : Ghosts D} (at n : ℕ) {a b : D} → Writes g (InRange at 1) a b → Writes g (InRecord at n) a b
gate_in_record at n writes = wider_writes _ (λ p r. (r.0, omega (arith, r.1))) writes
