use Rattle.std.proofs.Common.{◌+◌, ◌*◌, ◌++◌, ◌∙◌, ap, sym, arith, length, drop, take, length-append}
use Rattle.bd_disk.specs.History.{contents}
use Rattle.bd_model.specs.Sizes.{sizes_of}
use Rattle.bd_model.specs.Extents.{owner_bytes}
use Rattle.bd_model.specs.Records.{entries_in}
use Rattle.bd_extio.proofs.Places.{range_small}
use Rattle.bd_recipe.specs.Entries.{first_bad, is_within}
use Rattle.bd_recipe.proofs.DamageAnswers.{if_damaged}
use Rattle.bd_recipe.proofs.Entries.{length-entries_in}
use Rattle.bd_recipe.proofs.Pieces.{entries_of-range}
use Rattle.bd_recipe.proofs.recipe.read_piece.Goals as goal

pub overflow_mul-at : goal.overflow_mul-at
overflow_mul-at g c = omega (arith, range_small (sizes_of c.args.shape.now) c.args.extents.now c.requires.numbers (omega arith) (omega arith), c.requires.range, c.len.ensures)

pub take_entries-requires-clause-small : goal.take_entries-requires-clause-small
take_entries-requires-clause-small g c = omega (arith, range_small (sizes_of c.args.shape.now) c.args.extents.now c.requires.numbers (omega arith) (omega arith), c.requires.range)

pub returns-in_err-take_entries-clause-damage : goal.returns-in_err-take_entries-clause-damage
returns-in_err-take_entries-clause-damage g c =
    let owner = owner_bytes (sizes_of c.args.shape.now) c.args.extents.now (contents (g.D.Disk.history c.args.disk.now)) in
    let at = c.len.ensures in
    let n = c.requires.sized in
    let limits = c.args.limits.now in
    let count = c.args.count in
    let done = length c.args.recipe.now.items in
    if_damaged _ c.in_err-take_entries.field-0.0 c.from_residual-in_err-take_entries.result c.from_residual-in_err-take_entries.ensures.1 (λ told.
    ap (first_bad (is_within limits) limits.version done) (sym (ap (entries_in count) (c.in_ok-read_at.ensures.read told ∙ (λ i. take (n i) (drop (40 * at i) owner))) ∙ entries_of-range done count owner))
    ∙ c.in_err-take_entries.ensures.damage)

pub returns-clause-count : goal.returns-clause-count
returns-clause-count g c =
    ap length c.in_ok-take_entries.ensures.items
    ∙ length-append c.args.recipe.now.items (entries_in c.args.count c.read_at.new.into)
    ∙ ap (λ n. length c.args.recipe.now.items + n) (length-entries_in c.args.count c.read_at.new.into)

pub returns-clause-items : goal.returns-clause-items
returns-clause-items g c = λ told.
    let owner = owner_bytes (sizes_of c.args.shape.now) c.args.extents.now (contents (g.D.Disk.history c.args.disk.now)) in
    let at = c.len.ensures in
    let n = c.requires.sized in
    let xs = c.args.recipe.now.items in
    c.in_ok-take_entries.ensures.items
    ∙ ap (λ b. xs ++ entries_in c.args.count b) (c.in_ok-read_at.ensures.read told ∙ (λ i. take (n i) (drop (40 * at i) owner)))
    ∙ ap (λ es. xs ++ es) (entries_of-range (length xs) c.args.count owner)
