-- The rolling form of the gear hash, and how far it was rolled.
use Rattle.std.specs.Prelude.{◌≡◌, ℕ, ◌+◌, ◌-◌, ◌*◌, ◌%◌, ◌^◌, min, ◌<◌, ◌≤◌, Bool, List, length, take, slice_range, IsTrue, IsFalse}
use Rattle.std.specs.List.{fold}
use Rattle.bd_model.specs.Chunks.{Cut, gear}

-- the hash after one more byte
abbrev pub rolled_over : ℕ → ℕ → ℕ
rolled_over hash byte = (2 * hash + gear byte) % 2 ^ 64

-- the hash after these bytes, where it was `hash` before them
abbrev pub rolled_on : ℕ → List ℕ → ℕ
rolled_on hash bytes = fold rolled_over hash bytes

-- The hash rolled from `hash` to `end` over `count` of the bytes, and was below the bound after none of them before: up to
-- the first after which it is below, or else over all.
pub record RollsTo (bound : ℕ) (bytes : List ℕ) (hash count end : ℕ) (found : Bool) : Type 0 where
  pub within : count ≤ length bytes
  pub hash_is : end ≡ rolled_on hash (take count bytes)
  pub before : (k : ℕ) → 1 ≤ k → k < count → bound ≤ rolled_on hash (take k bytes)
  pub here : IsTrue found → (1 ≤ count) × (end < bound)
  pub all : IsFalse found → (count ≡ length bytes) × (1 ≤ count → bound ≤ end)

-- The hash rolled on from the first `scanned` of the bytes held, where it was `hash`, to the first `count`, where it is
-- `end`: up to the first length of the cut that ends at a candidate, or else up to the most that a chunk may have.
pub record ScansTo (cut : Cut) (held : List ℕ) (scanned hash count end : ℕ) (found : Bool) : Type 0 where
  pub forward : scanned ≤ count
  pub within : count ≤ min cut.most (length held)
  pub hash_is : end ≡ rolled_on hash (slice_range held scanned count)
  pub before : (n : ℕ) → scanned < n → cut.least ≤ n → n < count → 2 ^ (64 - cut.bits) ≤ rolled_on hash (slice_range held scanned n)
  pub here : IsTrue found → (scanned < count) × (cut.least ≤ count) × (end < 2 ^ (64 - cut.bits))
  pub all : IsFalse found → (count ≡ min cut.most (length held)) × (scanned < count → cut.least ≤ count → 2 ^ (64 - cut.bits) ≤ end)
