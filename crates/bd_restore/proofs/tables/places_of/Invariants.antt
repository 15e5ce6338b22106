use Rattle.std.proofs.Common.{◌≡◌, ℕ, ◌*◌, ◌<◌, ◌≤◌, get_or, length}
use Rattle.bd_restore.specs.Target.{place_at}
use Rattle.bd_restore.proofs.tables.places_of.Given as goal

abbrev pub invariant-loop-entry : goal.invariant-loop-entry
invariant-loop-entry l = record {
  sum : l.at ≡ place_at l.entries l.entry-index;
  small : l.at ≤ 65536 * l.entry-index;
  count : length l.places.items ≡ l.entry-index;
  each : (k : ℕ) → k < l.entry-index → get_or l.places.items k 0 ≡ place_at l.entries k;
}
