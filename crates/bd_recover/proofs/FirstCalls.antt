-- Calls of which the first is a sync.
use Rattle.std.proofs.Common.{inl, inr}
use Rattle.bd_disk.specs.Calls.{Done, Fails, IsIdle}
use Rattle.bd_disk.specs.History.{Call, Flush, History}
use Rattle.bd_disk.specs.Made.{Made}
use Rattle.bd_disk.specs.declared.touch.Touch.TheVariants.{Sync}
use Rattle.bd_disk.proofs.Frames.{goes_on, made_both, made_none}
use Rattle.bd_recover.specs.Opens.{SyncsFirst}

-- it failed
pub sync_fails : {a b : History} → Fails (IsIdle Sync) a b → SyncsFirst a b
sync_fails {a} {b} fails = record { synced = b; first = inr fails; rest = made_none _ b }

-- it alone
pub sync_alone : {a b : History} → Done Flush a b → SyncsFirst a b
sync_alone {a} {b} done = record { synced = b; first = inl done; rest = made_none _ b }

-- and calls behind it
pub syncs_on : {Kind : Call → Type 0} {a b c : History} → SyncsFirst a b → Made Kind b c → SyncsFirst a c
syncs_on f more = record { synced = f.synced; first = f.first; rest = made_both f.rest (goes_on more) }
