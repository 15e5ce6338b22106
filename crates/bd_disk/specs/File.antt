-- A disk over a file, as contracts see it.
use Rattle.std.specs.Prelude.{◌≡◌, ℕ, ◌-◌, ◌^◌, ◌<◌, Result, OnOk, OnErr}
use Rattle.bd_disk.specs.Calls.{one_more}

-- how many bytes it has, how many calls were made of it, and how many it answered with Failed
pub record OutsideOfDisk : Type 0 where
  pub bytes : ℕ
  pub clock : ℕ
  pub faults : ℕ

-- The clock rises, and the count of faults rises where Failed is answered and nowhere else. At the clock's last value
-- Failed is answered.
pub record CountsCall {T E : Type 0} (old new : OutsideOfDisk) (result : Result T E) : Type 0 where
  pub bytes : new.bytes ≡ old.bytes
  pub clock : new.clock ≡ one_more old.clock
  pub kept : OnOk result (new.faults ≡ old.faults)
  pub failed : OnErr result (new.faults ≡ one_more old.faults)
  pub in_time : OnOk result (old.clock < 2 ^ 64 - 1)
