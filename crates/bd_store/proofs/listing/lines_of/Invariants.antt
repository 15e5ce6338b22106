use Rattle.std.proofs.Common.{◌≡◌, ◌+◌, ◌≤◌, take}
use Rattle.bd_roll.specs.Catalogue.{oldest_in}
use Rattle.bd_catalog.specs.Standing.{lines_from}
use Rattle.bd_store.proofs.listing.lines_of.Given as goal

abbrev pub invariant-loop-index : goal.invariant-loop-index
invariant-loop-index l =
    (l.retained ≤ l.index + l.lines.spare)
    × (l.lines.items ≡ lines_from (oldest_in l.catalog.found.catalogue) (take l.index l.catalog.found.catalogue.versions))
