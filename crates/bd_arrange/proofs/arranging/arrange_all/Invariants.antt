use Rattle.std.proofs.Common.{drop, map}
use Rattle.bd_roll.specs.Shown.{open_entry}
use Rattle.bd_arrange.proofs.Laps.{Lap}
use Rattle.bd_arrange.proofs.arranging.arrange_all.Given as goal

abbrev pub invariant-loop-category : goal.invariant-loop-category
invariant-loop-category g l = record {
  lap : Lap g.D.Disk l.catalog.found l.neighbour.entries l.initial.space (map open_entry (drop l.category-index l.category-items)) l.space l.desk l.initial.disk l.disk;
}
