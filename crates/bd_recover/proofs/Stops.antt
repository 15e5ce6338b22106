-- What a stop within a format leaves.
use Rattle.std.proofs.Common.{◌≡◌, ◌≢◌, inl, inr, ℕ, Bool, true, false, ◌&&◌, ◌==◌, List, [], ◌∷◌, length, get_or, refl, sym, ◌∙◌, ap, subst, arith, Ok, IsErr, nat_le}
use Rattle.std.specs.Prelude.{bytes_eq}
use Rattle.std.proofs.lemmas.Bool.{eq-eqb}
use Rattle.std.proofs.lemmas.Bool.Decides.{eqb_tells}
use Rattle.bd_disk.specs.Images.{InRange, AgreeBut, bytes_at, overwritten}
use Rattle.bd_disk.specs.History.{History, contents}
use Rattle.bd_disk.specs.Made.{IsSettled, LeavesSince, Stores, WritesNothing, WritesOnly}
use Rattle.bd_disk.proofs.AgreeLemmas.{same_bytes_at, overwrite_agrees, overwritten_there}
use Rattle.bd_disk.proofs.Frames.{leaves_both, leaves_by_writes, leaves_quiet, still_settled, unchanged, writes_wider}
use Rattle.bd_disk.specs.Runs.{Works, WorkedAt, Writes}
use Rattle.bd_disk.specs.declared.disk.Disk.{Ghosts}
use Rattle.bd_disk.proofs.RunLemmas.{wider_writes, writes_work}
use Rattle.bd_model.specs.Limits.{IsShape}
use Rattle.bd_model.specs.Sizes.{Sizes}
use Rattle.bd_gate.specs.Halves.{BeforeExtents}
use Rattle.bd_gate.specs.Superblock.{byte_at, open_gate, magic, is_marked}
use Rattle.bd_catalog.specs.Opening.{opened}
use Rattle.bd_recover.specs.Fresh.{HoldsFresh, InParts, IsNoneOrFresh, fresh_found}
use Rattle.bd_recover.proofs.Bytes.{holds_but_gate}
use Rattle.bd_recover.proofs.Found.{opened_fresh, shut, unmarked}

-- an open gate that was no mark is none where the gate alone changes
other_gate : (long gate same now : Bool) → gate ≡ true → (long && gate && same) ≡ false → (long && now && same) ≡ false
other_gate true true true now is none = absurd (cc none)
other_gate true true false true is none = refl
other_gate true true false false is none = refl
other_gate true false same now is none = absurd (cc is)
other_gate false gate same now is none = refl

still_unmarked : (old image : List ℕ) → (byte_at old 0 == open_gate) ≡ true → is_marked old ≡ false → AgreeBut (InRange 0 1) old image → is_marked image ≡ false
still_unmarked old image is none same =
    let parts : bytes_at 1 7 image ≡ bytes_at 1 7 old = same_bytes_at _ old image 1 7 (λ place r q. omega (arith, r.0, q.1)) same in
    other_gate (nat_le 64 (length image)) (byte_at old 0 == open_gate) (bytes_eq (bytes_at 1 7 image) magic) (byte_at image 0 == open_gate) is
    (ap (λ n. nat_le 64 n && byte_at old 0 == open_gate && bytes_eq (bytes_at 1 7 image) magic) same.size
    ∙ ap (λ l. nat_le 64 (length old) && byte_at old 0 == open_gate && bytes_eq l magic) parts
    ∙ none)

zeroed : (image : List ℕ) → get_or (overwritten image 0 (0 ∷ [])) 0 0 ≡ 0
unfolding overwritten
zeroed [] = refl
zeroed (x ∷ xs) = refl

module _ (s : Sizes) where
  -- nothing is asked of it but reads and syncs
  pub asked : {a b : History} → is_marked (contents a) ≡ false → IsSettled a → WritesNothing a b → LeavesSince (IsNoneOrFresh s) a b
  asked none settled writes =
      leaves_quiet writes (record { each = λ image now. inl (subst (λ m. IsErr (opened m)) (sym (settled.each image now)) (unmarked _ none)) })

  -- the gate of what isn't marked closes
  pub closes : {a b : History} → is_marked (contents a) ≡ false → (byte_at (contents a) 0 == open_gate) ≡ true → IsSettled a
      → WritesOnly (InRange 0 1) a b → LeavesSince (IsNoneOrFresh s) a b
  closes {a = a} none is settled writes = leaves_by_writes (IsNoneOrFresh s) writes (λ before image now same.
      let agree : AgreeBut (InRange 0 1) (contents a) image = subst (λ m. AgreeBut (InRange 0 1) m image) (settled.each before now) same in
      inl (unmarked image (still_unmarked (contents a) image is none agree)))

  -- after it was asked
  pub asked_and_closes : {a b c : History} → is_marked (contents a) ≡ false → (byte_at (contents a) 0 == open_gate) ≡ true → IsSettled a
      → WritesNothing a b → WritesOnly (InRange 0 1) b c → LeavesSince (IsNoneOrFresh s) a c
  asked_and_closes none is settled asks writes =
      leaves_both (asked none settled asks)
      (closes
      (subst (λ m. is_marked m ≡ false) (sym (unchanged asks)) none)
      (subst (λ m. (byte_at m 0 == open_gate) ≡ true) (sym (unchanged asks)) is)
      (still_settled asks settled)
      writes)

  -- where it was no open gate, it still is none
  pub not_open : {a b : History} → (byte_at (contents a) 0 == open_gate) ≡ false → WritesNothing a b → byte_at (contents b) 0 ≢ open_gate
  not_open {a = a} is asks opened =
      let was : (byte_at (contents a) 0 == open_gate) ≡ true = eq-eqb (byte_at (contents a) 0) open_gate (ap (λ m. byte_at m 0) (sym (unchanged asks)) ∙ opened) in
      absurd (cc (is, was))

  -- the parts are written behind a closed gate
  pub behind : {a b : History} → byte_at (contents a) 0 ≢ open_gate → IsSettled a → WritesOnly (InParts s) a b → LeavesSince (IsNoneOrFresh s) a b
  behind closed settled writes = leaves_by_writes (IsNoneOrFresh s) writes (λ before image now same.
      inl (shut image (λ e. closed (ap (λ m. byte_at m 0) (sym (settled.each before now)) ∙ sym (same.each 0 (λ q. omega (arith, q.0))) ∙ e))))

  -- the gate opens
  pub opens : {a b : History} → IsShape s.extent s.extents s.retain s.min s.bits s.max → HoldsFresh s (contents a) → IsSettled a
      → WritesOnly (InRange 0 1) a b → LeavesSince (IsNoneOrFresh s) a b
  opens {a = a} is h settled writes = leaves_by_writes (IsNoneOrFresh s) writes (λ before image now same.
      let agree : AgreeBut (InRange 0 1) (contents a) image = subst (λ m. AgreeBut (InRange 0 1) m image) (settled.each before now) same in
      elim (eqb_tells (byte_at image 0) open_gate) as (λ w. IsNoneOrFresh s image) [
        | inl w ↦ inr (opened_fresh s image (holds_but_gate s (contents a) image h agree) is w.1)
        | inr w ↦ inl (shut image w.1)
      ])

  -- the contents once the gate is written
  pub made : {a b : History} → IsShape s.extent s.extents s.retain s.min s.bits s.max → HoldsFresh s (contents a) → Stores 0 (open_gate ∷ []) a b
      → opened (contents b) ≡ Ok (fresh_found s)
  made {a = a} is h stores =
      let image = overwritten (contents a) 0 (open_gate ∷ []) in
      let gate : byte_at image 0 ≡ open_gate = overwritten_there (contents a) 0 (open_gate ∷ []) 0 (omega arith) (omega (arith, h.room)) in
      ap opened stores.holds ∙ opened_fresh s image (holds_but_gate s (contents a) image h (overwrite_agrees (contents a) 0 (open_gate ∷ []))) is gate

  -- and of the closed gate
  pub closed : {a b : History} → Stores 0 (0 ∷ []) a b → byte_at (contents b) 0 ≢ open_gate
  closed {a = a} stores opened = absurd (omega (arith, sym opened ∙ ap (λ m. byte_at m 0) stores.holds ∙ zeroed (contents a)))

-- ---- where it works

wider_work : {D : Type 0} {g : Ghosts D} {Looked Written : ℕ → Type 0} (Wider : ℕ → Type 0) {a b : D} → ((place : ℕ) → Written place → Wider place) → Works g Looked Written a b → Works g Looked Wider a b
unfolding WorkedAt
wider_work Wider sub f = record { bytes = f.bytes; calls = λ told. ((f.calls told).0, writes_wider Wider sub (f.calls told).1) }

module _ {D : Type 0} {g : Ghosts D} (s : Sizes) {a b : D} where
  -- the gate lies before the extents, and so do the parts
  pub shut_before : Works g (InRange 0 64) (InRange 0 1) a b → Works g (InRange 0 64) (BeforeExtents s) a b
  shut_before work = wider_work _ (λ place q. omega (arith, q.1)) work

  pub gate_before : Writes g (InRange 0 1) a b → Works g (InRange 0 64) (BeforeExtents s) a b
  gate_before writes = shut_before (writes_work _ writes)

  pub parts_before : Writes g (InParts s) a b → Works g (InRange 0 64) (BeforeExtents s) a b
  parts_before writes = writes_work _ (wider_writes _ (λ place q. q.1) writes)
