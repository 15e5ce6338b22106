-- The places in a chunker's buffer.
use Rattle.std.specs.Prelude.{◌≡◌, ℕ, ◌+◌, ◌≤◌, Bool, IsTrue}
use Rattle.bd_gear.specs.declared.chunker.TheConstants.{ROOM}

-- the bytes held stand from `start` to `end`, and `scanned` of them are passed, at most as many as a chunk may have
pub record IsBuffer (size start end scanned : ℕ) (found : Bool) (most : ℕ) : Type 0 where
  pub size_is : size ≡ ROOM
  pub within : end ≤ size
  pub held : start + scanned ≤ end
  pub at_most : scanned ≤ most
  pub some : IsTrue found → 1 ≤ scanned
