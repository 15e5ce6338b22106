use Rattle.std.proofs.Common.{◌≡◌, ℕ, ◌+◌, ◌-◌, ◌≤◌, take, length}
use Rattle.bd_gear.specs.Rolling.{rolled_on}
use Rattle.bd_gear.proofs.scan.roll_to_candidate.Given as goal

abbrev pub invariant-loop-count : goal.invariant-loop-count
invariant-loop-count l =
    (l.count ≤ length l.bytes)
    × (l.hash ≡ rolled_on l.initial.hash (take l.count l.bytes))
    × ((k : ℕ) → 1 ≤ k → k ≤ l.count → l.last + 1 ≤ rolled_on l.initial.hash (take k l.bytes))

abbrev pub decreases-loop-count : goal.decreases-loop-count
decreases-loop-count l = length l.bytes - l.count
