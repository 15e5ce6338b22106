-- What a plan holds.
use Rattle.std.specs.Prelude.{◌≡◌, ℕ, ◌≤◌, Bool, false, List, length, map, replicate, Result, Ok, Err}
use Rattle.bd_model.specs.Sizes.{Sizes}
use Rattle.bd_model.specs.declared.layout.RecipeEntry.{RecipeEntry}
use Rattle.bd_model.specs.declared.damage.Damage.{Damage}
use Rattle.bd_roll.specs.Catalogue.{Catalogue, oldest_in}
use Rattle.bd_catalog.specs.Rows.{walk}
use Rattle.bd_recipe.specs.Reading.{total}
use Rattle.bd_recipe.specs.declared.fault.ReadFault.{ReadFault}
use Rattle.bd_recipe.specs.declared.fault.ReadFault.TheVariants.{DiskFault, Damaged, OutOfMemory}
use Rattle.bd_volume.specs.Pieces.{row_of_piece}
use Rattle.bd_volume.specs.declared.piece.Piece.{Piece}

-- the version, its recipe, the rows to walk over, and how many bytes of a body fit
pub record Planned : Type 0 where
  pub version : ℕ
  pub entries : List RecipeEntry
  pub pieces : List Piece
  pub room : ℕ

-- it is a plan of the retained version v of this catalogue, with whatever entries
pub record IsPlanOf (s : Sizes) (c : Catalogue) (v : ℕ) (plan : Planned) : Type 0 where
  pub version : plan.version ≡ v
  pub retained : oldest_in c ≤ v
  pub numbered : v ≤ c.newest
  pub rows : map (row_of_piece c) plan.pieces ≡ walk c v
  pub buffer : plan.room ≡ s.max

-- no entry is filled yet
pub record IsFresh (entries : List RecipeEntry) (bytes : ℕ) (filled : List Bool) : Type 0 where
  pub sum : bytes ≡ total entries
  pub flags : filled ≡ replicate (length entries) false

-- the plan is that of the expected recipe, but for a fault of the disk and want of memory
abbrev pub AnswersPlan : Result (List RecipeEntry) Damage → Result Planned ReadFault → Type 0
AnswersPlan expected (Ok plan) = expected ≡ Ok plan.entries
AnswersPlan expected (Err (Damaged damage)) = expected ≡ Err damage
AnswersPlan expected (Err DiskFault) = Unit {0}
AnswersPlan expected (Err OutOfMemory) = Unit {0}
