use Rattle.std.proofs.Common.{rules, length, arith}
use Rattle.bd_model.specs.Records.{four}
use Rattle.bd_roll.specs.Spelling.{read_four}
use Rattle.bd_roll.specs.Widths.{FitsFour}
use Rattle.bd_roll.proofs.Lengths.{length-fours}
use Rattle.bd_roll.proofs.ReadBack.{four_back}
use Rattle.bd_roll.proofs.OneSpelling.{list_none, list_short, same_rest, too_short, fewer}
use Rattle.bd_roll.proofs.decode.take_extents.Goals as goal

pub returns-then-left-count : goal.returns-then-left-count
returns-then-left-count c = list_short four FitsFour 4 c.in-Some.count c.args.cursor.now c.take_u32.new.self length-fours (search rules) c.in-Some.ensures.field (omega arith)

pub returns-in_default-take_u32 : goal.returns-in_default-take_u32
returns-in_default-take_u32 c =
    list_none four FitsFour (same_rest read_four four FitsFour four_back) c.in-Some.count c.loop.numbers.items c.args.cursor.now c.loop.cursor (search rules) c.loop.invariant.fit (omega arith) c.loop.invariant.so
    (too_short four FitsFour 4 c.loop.cursor (λ n. omega arith) (fewer 4 (length c.loop.cursor) c.in_default-take_u32.ensures.enough.1))
