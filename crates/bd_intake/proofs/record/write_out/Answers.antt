use Rattle.std.proofs.Common.{subst, sym}
use Rattle.bd_disk.specs.History.{contents}
use Rattle.bd_disk.specs.Runs.{Writes}
use Rattle.bd_model.specs.Laws.{entries_of_chunks}
use Rattle.bd_model.specs.Records.{records_of, spelled_recipe}
use Rattle.bd_model.specs.Sizes.{sizes_of}
use Rattle.bd_catalog.specs.Standing.{BeginWith}
use Rattle.bd_catalog.specs.Agreement.{InExtents}
use Rattle.bd_intake.specs.Firsts.{new_by_mark}
use Rattle.bd_intake.specs.Putting.{IsPut, KeepsPut}
use Rattle.bd_intake.proofs.ChunkWrites.{both_in, all_written, other_writes, still_put}
use Rattle.bd_intake.proofs.record.write_out.Goals as goal
use Rattle.bd_intake.proofs.record.write_out.Goals.{After-flush, After-flush-2}

-- What is written of the records, and of the recipe, lies in the extents of each.
first : (g : _) (c : After-flush g) → Writes g.D.Disk (InExtents (sizes_of c.args.shape.now) c.args.staging.now.fresh.numbers) c.args.disk.now c.flush.new.disk
first g c = subst (λ xs. Writes g.D.Disk (InExtents (sizes_of c.args.shape.now) xs) c.args.disk.now c.flush.new.disk) c.numbers.ensures c.flush.ensures.disk

second : (g : _) (c : After-flush-2 g) → Writes g.D.Disk (InExtents (sizes_of c.args.shape.now) c.args.staging.now.recipe.numbers) c.flush.new.disk c.flush-2.new.disk
second g c = subst (λ xs. Writes g.D.Disk (InExtents (sizes_of c.args.shape.now) xs) c.flush.new.disk c.flush-2.new.disk) c.numbers-2.ensures c.flush-2.ensures.disk

pub returns-in_err-flush-clause-disk : goal.returns-in_err-flush-clause-disk
returns-in_err-flush-clause-disk g c =
    other_writes (sizes_of c.args.shape.now) c.args.staging.now.recipe.numbers c.args.staging.now.fresh.numbers (first g (goal.at.returns-in_err-flush-clause-disk g c).After-flush)

pub returns-in_err-flush-2-clause-disk : goal.returns-in_err-flush-2-clause-disk
returns-in_err-flush-2-clause-disk g c =
    let at = goal.at.returns-in_err-flush-2-clause-disk g c in
    both_in (sizes_of c.args.shape.now) c.args.staging.now.recipe.numbers c.args.staging.now.fresh.numbers (first g at.After-flush) (second g at.After-flush-2)

pub returns-clause-disk : goal.returns-clause-disk
returns-clause-disk g c =
    let at = goal.at.returns-clause-disk g c in
    both_in (sizes_of c.args.shape.now) c.args.staging.now.recipe.numbers c.args.staging.now.fresh.numbers (first g at.After-flush) (second g at.After-flush-2)

pub returns-clause-written : goal.returns-clause-written
returns-clause-written g c = λ told t taken same was.
    let s = sizes_of c.args.shape.now in
    let old = c.args.staging.now in
    let recipe = old.recipe.numbers in
    let fresh = old.fresh.numbers in
    let entries = spelled_recipe (entries_of_chunks t.old t.version taken) in
    let records = records_of (new_by_mark t.old taken) in
    let image = contents (g.D.Disk.history c.args.disk.now) in
    let image_now = contents (g.D.Disk.history c.flush-2.new.disk) in
    let at = goal.at.returns-clause-written g c in
    record {
      recipe = subst (λ z. BeginWith z recipe entries image_now) (sym same)
          (all_written s recipe c.flush-2.new.self entries image_now c.in_ok-flush-2.ensures.none
          (subst (λ xs. KeepsPut g.D.Disk s xs old.entries c.flush-2.new.self c.flush.new.disk c.flush-2.new.disk) c.numbers-2.ensures c.in_ok-flush-2.ensures.kept told entries
          (still_put s recipe fresh old.entries entries c.requires.numbers.apart (first g at.After-flush) told (subst (λ z. IsPut z recipe old.entries entries image) same was.recipe))));
      fresh = subst (λ z. BeginWith z fresh records image_now) (sym same)
          (all_written s fresh c.flush.new.self records image_now c.in_ok-flush.ensures.none
          (still_put s fresh recipe c.flush.new.self records (λ e in_fresh in_recipe. c.requires.numbers.apart e in_recipe in_fresh) (second g at.After-flush-2) told
          (subst (λ xs. KeepsPut g.D.Disk s xs old.records c.flush.new.self c.args.disk.now c.flush.new.disk) c.numbers.ensures c.in_ok-flush.ensures.kept told records
          (subst (λ z. IsPut z fresh old.records records image) same was.fresh))));
    }
