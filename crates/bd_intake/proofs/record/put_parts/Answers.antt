use Rattle.std.proofs.Common.{subst}
use Rattle.bd_disk.specs.Runs.{Writes}
use Rattle.bd_model.specs.Records.{records_of, spelled_recipe}
use Rattle.bd_model.specs.Sizes.{sizes_of}
use Rattle.bd_catalog.specs.Agreement.{InExtents}
use Rattle.bd_intake.specs.Firsts.{with_new}
use Rattle.bd_intake.specs.Places.{AddsEntry, AddsRecord}
use Rattle.bd_intake.proofs.ChunkWrites.{both_in, other_writes, still_put}
use Rattle.bd_intake.proofs.record.put_parts.Goals as goal
use Rattle.bd_intake.proofs.record.put_parts.Goals.{After-put_record, After-put_own_entry}

-- What was put of the record, and of the entry, lies in the extents of each.
first : (g : _) (c : After-put_record g) → Writes g.D.Disk (InExtents (sizes_of c.args.shape.now) c.args.staging.now.fresh.numbers) c.args.disk.now c.put_record.new.disk
first g c = subst (λ xs. Writes g.D.Disk (InExtents (sizes_of c.args.shape.now) xs) c.args.disk.now c.put_record.new.disk) c.numbers.ensures c.put_record.ensures.disk

second : (g : _) (c : After-put_own_entry g) → Writes g.D.Disk (InExtents (sizes_of c.args.shape.now) c.args.staging.now.recipe.numbers) c.put_record.new.disk c.put_own_entry.new.disk
second g c = subst (λ xs. Writes g.D.Disk (InExtents (sizes_of c.args.shape.now) xs) c.put_record.new.disk c.put_own_entry.new.disk) c.numbers-2.ensures c.put_own_entry.ensures.disk

pub returns-in_err-put_record-clause-disk : goal.returns-in_err-put_record-clause-disk
returns-in_err-put_record-clause-disk g c =
    other_writes (sizes_of c.args.shape.now) c.args.staging.now.recipe.numbers c.args.staging.now.fresh.numbers (first g (goal.at.returns-in_err-put_record-clause-disk g c).After-put_record)

pub returns-in_err-put_own_entry-clause-disk : goal.returns-in_err-put_own_entry-clause-disk
returns-in_err-put_own_entry-clause-disk g c =
    let at = goal.at.returns-in_err-put_own_entry-clause-disk g c in
    both_in (sizes_of c.args.shape.now) c.args.staging.now.recipe.numbers c.args.staging.now.fresh.numbers (first g at.After-put_record) (second g at.After-put_own_entry)

pub returns-clause-disk : goal.returns-clause-disk
returns-clause-disk g c =
    let at = goal.at.returns-clause-disk g c in
    both_in (sizes_of c.args.shape.now) c.args.staging.now.recipe.numbers c.args.staging.now.fresh.numbers (first g at.After-put_record) (second g at.After-put_own_entry)

pub returns-clause-records : goal.returns-clause-records
returns-clause-records g c = λ told firsts before.
    let s = sizes_of c.args.shape.now in
    let old = c.args.staging.now in
    still_put s old.fresh.numbers old.recipe.numbers c.put_record.new.pending (records_of (with_new c.args.is_new c.args.body.now firsts)) (λ e in_fresh in_recipe. c.requires.numbers.apart e in_recipe in_fresh)
    (second g (goal.at.returns-clause-records g c).After-put_own_entry) told
    (subst (λ xs. AddsRecord g.D.Disk s xs c.args.is_new c.args.body.now old.records c.put_record.new.pending c.args.disk.now c.put_record.new.disk) c.numbers.ensures c.in_ok-put_record.ensures.put told firsts before)

pub returns-clause-entries : goal.returns-clause-entries
returns-clause-entries g c = λ told entries before.
    let s = sizes_of c.args.shape.now in
    let old = c.args.staging.now in
    subst (λ xs. AddsEntry g.D.Disk s xs c.args.entry.now old.entries c.put_own_entry.new.pending c.put_record.new.disk c.put_own_entry.new.disk) c.numbers-2.ensures c.in_ok-put_own_entry.ensures.put told entries
    (still_put s old.recipe.numbers old.fresh.numbers old.entries (spelled_recipe entries) c.requires.numbers.apart
    (first g (goal.at.returns-clause-entries g c).After-put_record) told before)
