use Rattle.std.proofs.Common.{sym}
use Rattle.bd_roll.specs.Shown.{volume_entry}
use Rattle.bd_volume.proofs.RowLists.{ClosedIs, closed_is, rows_of}
use Rattle.bd_volume.proofs.walk.closed.Goals as goal

pub returns : goal.returns
returns c =
    let cat = c.args.catalog.now.found.catalogue in
    let n = c.args.number in
    let e = volume_entry c.unwrap.result.now in
    let is : ClosedIs cat n e = closed_is c.args.catalog.now.found.sizes cat n e c.requires.rules (rw c.unwrap.ensures at c.volume.ensures.row) in
    record { rows = sym (rows_of is); short = is.short }
