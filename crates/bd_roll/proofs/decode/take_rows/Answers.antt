use Rattle.std.proofs.Common.{rules, [], ◌∷◌, ◌++◌, List, length, sym, ◌∙◌, ap, arith, length-append}
use Rattle.std.specs.List.{flat_map}
use Rattle.std.proofs.lemmas.List.Elements.{All-push, All-same}
use Rattle.bd_model.specs.Records.{four}
use Rattle.bd_model.specs.declared.layout.CategoryRow.{CategoryRow}
use Rattle.bd_roll.specs.Spelling.{read_row, spelled_row}
use Rattle.bd_roll.specs.Widths.{FitsRow}
use Rattle.bd_roll.proofs.Lengths.{length-rows}
use Rattle.bd_roll.proofs.ReadBack.{row_back}
use Rattle.bd_roll.proofs.OneSpelling.{list_none, list_short, same_rest, too_short, took_more}
use Rattle.bd_roll.proofs.decode.take_rows.Goals as goal

pub returns-then-left-count : goal.returns-then-left-count
returns-then-left-count c = list_short spelled_row FitsRow 20 c.in-Some.count c.args.cursor.now c.take_u32.new.self length-rows (search rules) c.in-Some.ensures.field (omega arith)

pub returns-in_default-take_row : goal.returns-in_default-take_row
returns-in_default-take_row c =
    list_none spelled_row FitsRow (same_rest read_row spelled_row FitsRow row_back) c.in-Some.count c.loop.rows.items c.args.cursor.now c.loop.cursor (search rules) c.loop.invariant.fit (omega arith) c.loop.invariant.so
    (too_short spelled_row FitsRow 20 c.loop.cursor (λ r. omega arith) c.in_default-take_row.ensures.short)

pub loop-preserved : goal.loop-preserved
loop-preserved c =
    let taken = c.in-Some-take_row.ensures.taken in
    let row = c.in-Some-take_row.row in
    let front = four c.in-Some.count in
    record {
      so = took_more spelled_row c.loop.rows.items row front c.args.cursor.now c.loop.cursor c.take_row.new.cursor c.loop.invariant.so taken.so
          ∙ ap (λ (rows : List CategoryRow). front ++ (flat_map spelled_row rows ++ c.take_row.new.cursor)) (sym c.push.ensures.items);
      size = omega (arith, ap length c.push.ensures.items, length-append c.loop.rows.items (row ∷ []), c.loop.invariant.size);
      room = omega (arith, c.push.ensures.spare, c.loop.invariant.room);
      fit = All-same FitsRow c.push.new.self.items (c.loop.rows.items ++ row ∷ []) c.push.ensures.items (All-push FitsRow c.loop.rows.items row c.loop.invariant.fit taken.fit);
    }
