-- Extents that owners give up.
use Rattle.std.specs.Prelude.{◌≡◌, ◌<◌, ◌^◌, ℕ, List, ◌++◌, sum_by}
use Rattle.bd_model.specs.declared.layout.CategoryRow.{CategoryRow}
use Rattle.bd_space.specs.Allotment.{Allotment, extent_count, TakenExactly, KeepsHeld}

-- these numbers are taken, each once and beside others
pub record AreOwned (space : Allotment) (numbers : List ℕ) : Type 0 where
  pub others : List ℕ
  pub exactly : TakenExactly space (others ++ numbers)

-- These numbers were given up: what was taken beside them is taken still and nothing else is, and as many are held.
pub record GivesUp (numbers : List ℕ) (old new : Allotment) : Type 0 where
  pub owners : (others : List ℕ) → TakenExactly old (others ++ numbers) → TakenExactly new others
  pub extents : extent_count new ≡ extent_count old
  pub held : KeepsHeld old new

-- the counts of rows, added up, fit their fields
pub record SumsFit (rows : List CategoryRow) : Type 0 where
  pub chunks : sum_by (λ row. row.chunks) rows < 2 ^ 64
  pub bytes : sum_by (λ row. row.bytes) rows < 2 ^ 64
