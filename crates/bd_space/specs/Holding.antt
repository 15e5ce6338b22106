-- What contracts see of an owner's list.
use Rattle.std.specs.Prelude.{ℕ, List}

-- the extent numbers, and how many more fit before memory has to be taken
pub record Holding : Type 0 where
  pub numbers : List ℕ
  pub spare : ℕ
