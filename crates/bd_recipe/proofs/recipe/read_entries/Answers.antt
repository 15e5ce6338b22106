use Rattle.std.proofs.Common.{rules, refl, ◌≡◌, ◌+◌, ◌*◌, ◌≤◌, ◌∙◌, ◌++◌, ap, sym, arith, length, drop, true}
use Rattle.std.specs.List.{list_all}
use Rattle.bd_disk.specs.History.{contents}
use Rattle.bd_disk.proofs.RunLemmas.{both_reads, no_reads, same_contents}
use Rattle.bd_model.specs.Sizes.{sizes_of}
use Rattle.bd_model.specs.Extents.{owner_bytes}
use Rattle.bd_model.specs.Records.{entries_in}
use Rattle.bd_extio.proofs.Within.{reads_within}
use Rattle.bd_recipe.specs.Entries.{first_bad, is_within}
use Rattle.bd_recipe.proofs.DamageAnswers.{if_damaged_on}
use Rattle.bd_recipe.proofs.Pieces.{items_more, reads_more, reads_to-piece}
use Rattle.bd_recipe.proofs.recipe.read_entries.Goals as goal

pub loop-buffer-init : goal.loop-buffer-init
loop-buffer-init g c = record {
  disk = no_reads;
  faults = refl;
  within = search rules;
  spare = search rules;
  hold = search rules;
  items = search rules;
  places = search rules;
}

pub loop-buffer-preserved : goal.loop-buffer-preserved
loop-buffer-preserved g c =
    let s = sizes_of c.args.shape.now in
    let extents = c.args.extents.now in
    let done = length c.loop-buffer.recipe.items in
    let count = c.min-count.result in
    let more : length c.read_piece.new.recipe.items ≡ done + count = c.in_ok-read_piece.ensures.count in
    let fits : done + count ≤ c.args.chunks = omega arith in
    record {
      disk = both_reads c.loop-buffer.invariant.disk (reads_within _ _ (omega arith) (omega (arith, fits)) c.read_piece.ensures.disk);
      faults = c.in_ok-read_piece.ensures.cause.cause ∙ c.loop-buffer.invariant.faults;
      within = omega (arith, more, fits);
      spare = omega (arith, more, c.in_ok-read_piece.ensures.spare);
      hold = c.in_ok-read_piece.ensures.hold;
      items = λ told.
          let image = contents (g.D.Disk.history c.args.disk.now) in
          let same : contents (g.D.Disk.history c.loop-buffer.disk) ≡ image = same_contents c.loop-buffer.invariant.disk told in
          items_more (owner_bytes s extents image) done count (length c.read_piece.new.recipe.items) c.loop-buffer.recipe.items c.read_piece.new.recipe.items more (c.loop-buffer.invariant.items told)
          (c.in_ok-read_piece.ensures.items told ∙ (λ i. c.loop-buffer.recipe.items ++ entries_in count (drop (40 * done) (owner_bytes s extents (same i)))));
      places = λ told. reads_more s extents done count (length c.read_piece.new.recipe.items) more (c.loop-buffer.invariant.places told) (c.in_ok-read_piece.ensures.places told);
    }

pub returns-in_err-read_piece-clause-disk : goal.returns-in_err-read_piece-clause-disk
returns-in_err-read_piece-clause-disk g c =
    let fits : length c.loop-buffer.recipe.items + c.min-count.result ≤ c.args.chunks = omega arith in
    both_reads c.loop-buffer.invariant.disk (reads_within _ _ (omega arith) (omega (arith, fits)) c.read_piece.ensures.disk)

pub returns-in_err-read_piece-clause-damage : goal.returns-in_err-read_piece-clause-damage
returns-in_err-read_piece-clause-damage g c =
    let s = sizes_of c.args.shape.now in
    let extents = c.args.extents.now in
    let limits = c.args.limits.now in
    let done = length c.loop-buffer.recipe.items in
    let count = c.min-count.result in
    let fits : done + count ≤ c.args.chunks = omega arith in
    let image = contents (g.D.Disk.history c.args.disk.now) in
    let owner = owner_bytes s extents image in
    if_damaged_on (Unit {0}) _ _ _ c.in_err-read_piece.field-0.0 c.from_residual-in_err-read_piece.result c.from_residual-in_err-read_piece.ensures.1 c.in_err-read_piece.ensures.damage c.in_err-read_piece.ensures.places (λ damage bad reads told.
    let same : contents (g.D.Disk.history c.loop-buffer.disk) ≡ image = same_contents c.loop-buffer.invariant.disk told in
    let hold : list_all (is_within limits) (entries_in done owner) ≡ true = ap (list_all (is_within limits)) (sym (c.loop-buffer.invariant.items told)) ∙ c.loop-buffer.invariant.hold in
    reads_to-piece limits s extents owner c.args.chunks done count damage fits hold
    ((λ i. first_bad (is_within limits) limits.version done (entries_in count (drop (40 * done) (owner_bytes s extents (sym same i))))) ∙ bad told)
    (c.loop-buffer.invariant.places told) (reads told))
