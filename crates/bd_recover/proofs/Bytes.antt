-- What the writes of a format leave.
use Rattle.std.proofs.Common.{◌≡◌, ℕ, ◌+◌, ◌<◌, ◌≤◌, List, [], ◌∷◌, length, get_or, ◌∙◌, ap, arith, eqb}
use Rattle.bd_disk.specs.Images.{InRange, AgreeBut, overwritten}
use Rattle.bd_disk.proofs.AgreeLemmas.{length-overwritten, overwritten_there, overwrite_agrees, bytes_at-overwritten, same_bytes_at}
use Rattle.bd_disk.specs.Runs.{Writes}
use Rattle.bd_disk.specs.declared.disk.Disk.{Ghosts}
use Rattle.bd_disk.proofs.RunLemmas.{wider_writes}
use Rattle.bd_model.specs.Sizes.{Sizes, disk_bytes, half_bytes, half_place}
use Rattle.bd_gate.specs.Superblock.{open_gate}
use Rattle.bd_recover.specs.Fresh.{HoldsFresh, InParts, fresh_half, superblock_body}

module _ (s : Sizes) where
  -- the parts stay where the gate alone changes
  pub holds_but_gate : (old image : List ℕ) → HoldsFresh s old → AgreeBut (InRange 0 1) old image → HoldsFresh s image
  holds_but_gate old image h same = record {
    room = omega (arith, h.room, same.size);
    body = same_bytes_at _ old image 1 63 (λ place r q. omega (arith, r.0, q.1)) same ∙ h.body;
    half = same_bytes_at _ old image 64 32 (λ place r q. omega (arith, r.0, q.1)) same ∙ h.half;
    other = ap (λ b. eqb b open_gate) (same.each (half_place s 1) (λ q. omega (arith, q.1))) ∙ h.other;
  }

  -- after the three writes
  pub holds_fresh : (image : List ℕ) → disk_bytes s ≤ length image →
      HoldsFresh s (overwritten (overwritten (overwritten image 64 fresh_half) (half_place s 1) (0 ∷ [])) 1 (superblock_body s))
  holds_fresh image room =
      let first = overwritten image 64 fresh_half in
      let second = overwritten first (half_place s 1) (0 ∷ []) in
      let third = overwritten second 1 (superblock_body s) in
      let size_first : length first ≡ length image = length-overwritten image 64 fresh_half in
      let size_second : length second ≡ length image = length-overwritten first (half_place s 1) (0 ∷ []) ∙ size_first in
      let size_third : length third ≡ length image = length-overwritten second 1 (superblock_body s) ∙ size_second in
      let last : AgreeBut (InRange 1 63) second third = overwrite_agrees second 1 (superblock_body s) in
      let middle : AgreeBut (InRange (half_place s 1) 1) first second = overwrite_agrees first (half_place s 1) (0 ∷ []) in
      let gate : half_place s 1 < length first = omega (arith, size_first) in
      record {
        room = omega (arith, size_third);
        body = bytes_at-overwritten second 1 (superblock_body s) (omega (arith, size_second));
        half = same_bytes_at _ second third 64 32 (λ place r q. omega (arith, r.0, q.1)) last
            ∙ same_bytes_at _ first second 64 32 (λ place r q. omega (arith, r.1, q.0)) middle
            ∙ bytes_at-overwritten image 64 fresh_half (omega arith);
        other = ap (λ b. eqb b open_gate)
            (last.each (half_place s 1) (λ q. omega (arith, q.1))
            ∙ ap (λ n. get_or second n 0) (omega arith)
            ∙ overwritten_there first (half_place s 1) (0 ∷ []) 0 (omega arith) (omega (arith, gate)));
      }

-- each part is written in its place
module _ {D : Type 0} {g : Ghosts D} (s : Sizes) {n : ℕ} {a b : D} where
  pub first_in_parts : n ≡ 32 → Writes g (InRange 64 n) a b → Writes g (InParts s) a b
  first_in_parts long writes = wider_writes _ (λ place r. (omega (arith, r.0), omega (arith, r.1, long))) writes

  pub other_in_parts : n ≡ half_bytes s → Writes g (InRange (64 + n) 1) a b → Writes g (InParts s) a b
  other_in_parts is writes = wider_writes _ (λ place r. (omega (arith, r.0), omega (arith, r.1, is))) writes

  pub body_in_parts : n ≡ 63 → Writes g (InRange 1 n) a b → Writes g (InParts s) a b
  body_in_parts long writes = wider_writes _ (λ place r. (r.0, omega (arith, r.1, long))) writes
