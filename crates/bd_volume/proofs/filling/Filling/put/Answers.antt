use Rattle.std.proofs.Common.{arith, ap}
use Rattle.bd_roll.specs.Catalogue.{bytes_of_rows}
use Rattle.bd_volume.specs.Filled.{Filled}
use Rattle.bd_volume.proofs.RowsMore.{bytes-rows_more}
use Rattle.bd_volume.proofs.filling.Filling.put.Goals as goal

pub invariant_of-self : goal.invariant_of-self
invariant_of-self c =
    omega (arith, c.self.invariant, c.requires.bytes, ap (λ (f : Filled). bytes_of_rows f.rows) c.self.view_is, ap bytes_of_rows c.put_behind.ensures, bytes-rows_more c.max.result c.args.chunks c.args.bytes c.self.inside.rows.items)
