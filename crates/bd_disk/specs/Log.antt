-- The calls that a disk in memory keeps, as a history.
use Rattle.std.specs.Prelude.{◌≡◌, ℕ, zero, suc, ◌≤◌, List, [], ◌∷◌, map, length, Some, None}
use Rattle.bd_disk.specs.History.{Call, Put, Flush, Idle, History, Begun, After, clock}
use Rattle.bd_disk.specs.Memory.{Memory}
use Rattle.bd_disk.specs.declared.touch.Touch.{Touch}
use Rattle.bd_disk.specs.declared.touch.Touch.TheVariants.{Write, Sync}
use Rattle.bd_disk.specs.declared.log.What.{What}
use Rattle.bd_disk.specs.declared.log.What.TheVariants.{Wrote, Synced, Nothing}
use Rattle.bd_disk.specs.declared.log.Kept.{Kept}
use Rattle.bd_disk.specs.declared.log.Log.{Log}

-- the call that was kept
abbrev pub call_of : What → Call
call_of (Wrote at bytes) = Put at bytes.items
call_of Synced = Flush
call_of (Nothing touch) = Idle (Some touch)

-- how the trace shows it
abbrev pub touch_of : What → Touch
touch_of (Wrote at bytes) = Write at (length bytes.items)
touch_of Synced = Sync
touch_of (Nothing touch) = touch

-- n calls more that aren't in the trace
abbrev pub skips : ℕ → History → History
skips zero h = h
skips (suc n) h = After (skips n h) (Idle None)

-- the calls that were kept, the oldest first
abbrev pub kept_calls_on : History → List Kept → History
kept_calls_on h [] = h
kept_calls_on h (k ∷ ks) = kept_calls_on (After (skips k.skipped h) (call_of k.what)) ks

abbrev pub history_of : List ℕ → Log → History
history_of first log = skips log.skipped (kept_calls_on (Begun first 0) log.kept.items)

-- what contracts see of a disk with this first image and this log
abbrev pub seen : List ℕ → Log → Memory
seen first log = record { history = history_of first log; faults = log.faults; refused = log.refused; failing = log.failing }

-- The moment is the clock, the trace is that of the calls, and no more calls were refused than there were.
pub record IsLog (log : Log) : Type 0 where
  pub moment : (first : List ℕ) → clock (history_of first log) ≡ log.moment
  pub traced : log.trace.items ≡ map (λ (k : Kept). touch_of k.what) log.kept.items
  pub few : log.refused ≤ log.moment
