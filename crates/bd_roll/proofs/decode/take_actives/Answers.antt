use Rattle.std.proofs.Common.{rules}
use Rattle.bd_roll.specs.Spelling.{read_active, spelled_active}
use Rattle.bd_roll.specs.Widths.{FitsOpen}
use Rattle.bd_roll.proofs.ReadBack.{active_back}
use Rattle.bd_roll.proofs.OneSpelling.{counted_none, same_rest}
use Rattle.bd_roll.proofs.decode.take_actives.Goals as goal

pub take_many-requires : goal.take_many-requires
take_many-requires c = same_rest read_active spelled_active FitsOpen active_back

pub returns-in_default-found : goal.returns-in_default-found
returns-in_default-found c =
    counted_none spelled_active FitsOpen c.in-Some.count c.args.cursor.now c.take_u32.new.self (search rules) c.in-Some.ensures.field (rw c.in_default-found.is at c.in_ok-found.ensures)
