use Rattle.std.proofs.Common.{sym, ◌∙◌, ap, arith, Some}
use Rattle.bd_model.specs.Sizes.{sizes_of}
use Rattle.bd_catalog.specs.Opening.{Found}
use Rattle.bd_roll.specs.Shown.{catalogue_of_contents}
use Rattle.bd_roll.proofs.RuleLemmas.{bounded_of}
use Rattle.bd_roll.proofs.DecodeLemmas.{none_unread, none_longer, none_broken, some_obeyed}
use Rattle.bd_catalog.proofs.catalog.Catalog.decode.Goals as goal

pub returns-in_default-clause-none : goal.returns-in_default-clause-none
returns-in_default-clause-none c =
    let none = rw c.in_default.is at c.in_ok-taken.ensures in
    none_unread (sizes_of c.args.shape) (bounded_of c.args.shape) c.args.bytes.now (rw c.new-cursor.ensures at none)

pub returns-then-left-gt0-clause-none : goal.returns-then-left-gt0-clause-none
returns-then-left-gt0-clause-none c =
    let took = rw c.in-Some.is at c.in_ok-taken.ensures in
    none_longer (sizes_of c.args.shape) (catalogue_of_contents c.in-Some.contents) c.args.bytes.now c.take_contents.new.cursor (rw c.new-cursor.ensures at took)
    (omega (arith, c.left.ensures))

pub returns-then-not-obeyed-clause-none : goal.returns-then-not-obeyed-clause-none
returns-then-not-obeyed-clause-none c =
    let took = rw c.in-Some.is at c.in_ok-taken.ensures in
    none_broken (sizes_of c.args.shape) (catalogue_of_contents c.in-Some.contents) c.args.bytes.now c.take_contents.new.cursor (rw c.new-cursor.ensures at took)
    (sym c.if-not-obeyed.true ∙ c.in_ok-obeyed.ensures)

pub returns-clause-some : goal.returns-clause-some
returns-clause-some c =
    let took = rw c.in-Some.is at c.in_ok-taken.ensures in
    some_obeyed (sizes_of c.args.shape) (catalogue_of_contents c.in-Some.contents) c.args.bytes.now c.take_contents.new.cursor (rw c.new-cursor.ensures at took)
    (omega (arith, c.left.ensures)) (sym c.if-not-obeyed.false ∙ c.in_ok-obeyed.ensures)
    ∙ ap (λ (f : Found). Some f.catalogue) (sym c.in_ok-catalog.ensures)
