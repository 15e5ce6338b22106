use Rattle.std.proofs.Common.{List, take}
use Rattle.bd_model.specs.Recipe.{has_mark}
use Rattle.bd_model.specs.declared.layout.RecipeEntry.{RecipeEntry}
use Rattle.bd_intake.specs.Seen.{AreUsed}
use Rattle.bd_intake.specs.Tallies.{CountsNeighbour}
use Rattle.bd_intake.proofs.tally.tallied.Given as goal

abbrev pub invariant-loop-index : goal.invariant-loop-index
invariant-loop-index l = (new : List RecipeEntry) → AreUsed l.neighbour.entries (has_mark new) l.used → CountsNeighbour (take l.index l.neighbour.entries) new l.tally
