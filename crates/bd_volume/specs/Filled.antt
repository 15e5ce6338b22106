-- A closed volume while records are appended to it, as contracts see it.
use Rattle.std.specs.Prelude.{ℕ, List}
use Rattle.bd_model.specs.declared.layout.CategoryRow.{CategoryRow}

-- its rows, the numbers of its extents, those of them that were added, the oldest retained version, and how many rows more
-- fit before memory has to be taken
pub record Filled : Type 0 where
  pub rows : List CategoryRow
  pub numbers : List ℕ
  pub added : List ℕ
  pub oldest : ℕ
  pub spare : ℕ
