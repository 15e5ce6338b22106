-- A range that lies within another range of the same owner's bytes.
use Rattle.std.proofs.Common.{◌≡◌, ℕ, ◌+◌, ◌-◌, ◌≤◌, List, ◌∙◌, ap, arith}
use Rattle.bd_disk.specs.Runs.{Reads, Writes}
use Rattle.bd_disk.specs.declared.disk.Disk.{Ghosts}
use Rattle.bd_disk.proofs.RunLemmas.{wider_reads, wider_writes}
use Rattle.bd_model.specs.Sizes.{Sizes}
use Rattle.bd_extio.specs.Ranges.{InOwner, place_of}

module _ (s : Sizes) (extents : List ℕ) (at n from to : ℕ) (low : from ≤ at) (high : at + n ≤ from + to) where
  pub in_wider : (place : ℕ) → InOwner s extents at n place → InOwner s extents from to place
  in_wider place r =
      let where_ : at + r.k ≡ from + (at - from + r.k) = omega (arith, low) in
      record { k = at - from + r.k; within = omega (arith, r.within, low, high); so = r.so ∙ ap (place_of s extents) where_ }

module _ {D : Type 0} {g : Ghosts D} {s : Sizes} {extents : List ℕ} {at n : ℕ} (from to : ℕ) {a b : D} where
  pub reads_within : from ≤ at → at + n ≤ from + to → Reads g (InOwner s extents at n) a b → Reads g (InOwner s extents from to) a b
  reads_within low high = wider_reads _ (in_wider s extents at n from to low high)

  pub writes_within : from ≤ at → at + n ≤ from + to → Writes g (InOwner s extents at n) a b → Writes g (InOwner s extents from to) a b
  writes_within low high = wider_writes _ (in_wider s extents at n from to low high)
