use Rattle.std.proofs.Common.{◌≡◌, [], sym, ◌∙◌, ap, subst, refl, arith}
use Rattle.std.proofs.lemmas.Result.{err_from_is_err_and}
use Rattle.bd_disk.specs.History.{contents}
use Rattle.bd_disk.proofs.RunLemmas.{no_writes}
use Rattle.bd_gear.specs.Chunking.{Chunking}
use Rattle.bd_model.specs.Chunks.{chunks}
use Rattle.bd_model.specs.Sizes.{sizes_of}
use Rattle.bd_space.specs.Allotment.{held_count}
use Rattle.bd_intake.specs.Firsts.{cut_in}
use Rattle.bd_intake.specs.Filling.{HasStream}
use Rattle.bd_intake.specs.Given.{Given, given_of}
use Rattle.bd_intake.specs.Staging.{HasTaken}
use Rattle.bd_intake.proofs.DrainLemmas.{writes_after, writes_on}
use Rattle.bd_intake.proofs.IntakeEnd.{files_read, refuses_last, refuses_whole, whole_stream}
use Rattle.bd_intake.proofs.StagedChunks.{grows_both, grows_still, held_within, staging_still, taken_still}
use Rattle.bd_intake.proofs.OwnedExtents.{owns_apart}
use Rattle.bd_intake.proofs.take_in.stage.Goals as goal

pub returns-in_err-chunker-clause-disk : goal.returns-in_err-chunker-clause-disk
returns-in_err-chunker-clause-disk g c = no_writes

pub returns-in_err-fill-clause-refused : goal.returns-in_err-fill-clause-refused
returns-in_err-fill-clause-refused g c = λ t stream holds.
    let p = err_from_is_err_and c.from_residual-in_err-fill.result c.from_residual-in_err-fill.ensures.1 in
    rw (p.1, p.2) (c.in_err-fill.ensures.refused t stream holds)

pub take_chunks-requires-clause-fed : goal.take_chunks-requires-clause-fed
take_chunks-requires-clause-fed g c =
    let filled = c.in_ok-fill.ensures.filled in
    record { stream = filled.stream; taken = filled.taken; fed = c.finish.ensures.fed (cut_in (sizes_of c.args.terms.now.shape)) filled.stream filled.taken filled.fed }

pub returns-in_err-take_chunks-clause-disk : goal.returns-in_err-take_chunks-clause-disk
returns-in_err-take_chunks-clause-disk g c = writes_on (sizes_of c.args.terms.now.shape) c.take_chunks.ensures.grows c.fill.ensures.disk c.take_chunks.ensures.disk

pub returns-in_err-take_chunks-clause-files : goal.returns-in_err-take_chunks-clause-files
returns-in_err-take_chunks-clause-files g c = files_read _ (λ none. none) c.in_ok-fill.ensures.files

pub returns-in_err-take_chunks-clause-grows : goal.returns-in_err-take_chunks-clause-grows
returns-in_err-take_chunks-clause-grows g c = grows_both c.fill.ensures.grows c.take_chunks.ensures.grows

pub returns-in_err-take_chunks-clause-refused : goal.returns-in_err-take_chunks-clause-refused
returns-in_err-take_chunks-clause-refused g c = λ t stream holds.
    let is = c.requires.staging in
    let filled = c.in_ok-fill.ensures.filled in
    let held : held_count c.fill.new.space ≡ held_count c.args.space.now = (c.fill.ensures.grows.owners is.base is.first is.owns).held ∙ sym is.owns.held in
    let p = err_from_is_err_and c.from_residual-in_err-take_chunks.result c.from_residual-in_err-take_chunks.ensures.1 in
    rw (p.1, p.2)
    (refuses_last (given_of c.args.terms.now) (held_count c.args.space.now) (held_count c.fill.new.space) filled.stream stream c.in_err-take_chunks.field-0.0 (filled.whole t stream holds) held
    (c.in_err-take_chunks.ensures.refused filled.stream [] filled.taken (c.finish.ensures.fed (cut_in (sizes_of c.args.terms.now.shape)) filled.stream filled.taken filled.fed) filled.has (λ over. refl)))

pub returns-in_err-need-clause-disk : goal.returns-in_err-need-clause-disk
returns-in_err-need-clause-disk g c = writes_on (sizes_of c.args.terms.now.shape) c.take_chunks.ensures.grows c.fill.ensures.disk c.take_chunks.ensures.disk

pub returns-in_err-need-clause-files : goal.returns-in_err-need-clause-files
returns-in_err-need-clause-files g c = files_read _ (λ none. none) c.in_ok-fill.ensures.files

pub returns-in_err-need-clause-grows : goal.returns-in_err-need-clause-grows
returns-in_err-need-clause-grows g c = grows_both c.fill.ensures.grows c.take_chunks.ensures.grows

pub write_out-requires-clause-numbers : goal.write_out-requires-clause-numbers
write_out-requires-clause-numbers g c =
    let is = c.in_ok-take_chunks.ensures.staging in
    owns_apart (sizes_of c.args.terms.now.shape) is.base is.first c.take_chunks.new.space c.take_chunks.new.staging.recipe.numbers c.take_chunks.new.staging.fresh.numbers is.count is.owns

pub write_out-requires-clause-record_range : goal.write_out-requires-clause-record_range
write_out-requires-clause-record_range g c = (held_within c.args.terms.now c.take_chunks.new.space c.take_chunks.new.staging c.in_ok-take_chunks.ensures.staging).1

pub write_out-requires-clause-entry_range : goal.write_out-requires-clause-entry_range
write_out-requires-clause-entry_range g c = (held_within c.args.terms.now c.take_chunks.new.space c.take_chunks.new.staging c.in_ok-take_chunks.ensures.staging).0

pub returns-in_err-write_out-clause-disk : goal.returns-in_err-write_out-clause-disk
returns-in_err-write_out-clause-disk g c =
    writes_after (sizes_of c.args.terms.now.shape) c.take_chunks.new.staging c.write_out.new.staging c.write_out.ensures.same
    (writes_on (sizes_of c.args.terms.now.shape) c.take_chunks.ensures.grows c.fill.ensures.disk c.take_chunks.ensures.disk) c.write_out.ensures.disk

pub returns-in_err-write_out-clause-files : goal.returns-in_err-write_out-clause-files
returns-in_err-write_out-clause-files g c = files_read _ (λ none. none) c.in_ok-fill.ensures.files

pub returns-in_err-write_out-clause-grows : goal.returns-in_err-write_out-clause-grows
returns-in_err-write_out-clause-grows g c = grows_still c.write_out.ensures.same (grows_both c.fill.ensures.grows c.take_chunks.ensures.grows)

pub returns-clause-disk : goal.returns-clause-disk
returns-clause-disk g c =
    writes_after (sizes_of c.args.terms.now.shape) c.take_chunks.new.staging c.write_out.new.staging c.write_out.ensures.same
    (writes_on (sizes_of c.args.terms.now.shape) c.take_chunks.ensures.grows c.fill.ensures.disk c.take_chunks.ensures.disk) c.write_out.ensures.disk

pub returns-clause-files : goal.returns-clause-files
returns-clause-files g c = files_read _ (λ none. none) c.in_ok-fill.ensures.files

pub returns-clause-grows : goal.returns-clause-grows
returns-clause-grows g c = grows_still c.write_out.ensures.same (grows_both c.fill.ensures.grows c.take_chunks.ensures.grows)

pub returns-clause-staging : goal.returns-clause-staging
returns-clause-staging g c =
    staging_still (given_of c.args.terms.now) c.take_chunks.new.space c.take_chunks.new.staging c.write_out.new.staging c.in_ok-take_chunks.ensures.staging
    c.write_out.ensures.same c.in_ok-write_out.ensures.record_count c.in_ok-write_out.ensures.entry_count

pub returns-clause-whole : goal.returns-clause-whole
returns-clause-whole g c = λ t stream holds.
    let terms : Given = given_of c.args.terms.now in
    let filled = c.in_ok-fill.ensures.filled in
    let parts = chunks (cut_in terms.sizes) stream in
    let staged = c.take_chunks.new.staging in
    let all : HasStream terms stream staged g.D.Disk.tells (contents (g.D.Disk.history c.take_chunks.new.disk)) =
    whole_stream terms c.fill.new.chunker c.finish.new.self c.take_chunks.new.chunker c.fill.new.staging staged g.D.Disk.tells (contents (g.D.Disk.history c.fill.new.disk)) (contents (g.D.Disk.history c.take_chunks.new.disk))
    g.F.Files.tells (g.F.Files.files c.args.files.now) c.args.name.now filled (c.finish.ensures.fed (cut_in terms.sizes) filled.stream filled.taken filled.fed)
    (ap (λ (d : Chunking). d.finished) c.finish.ensures.finished) c.in_ok-take_chunks.ensures.taken t stream holds in (
      c.in_ok-need.ensures.need parts all.has,
      subst (HasTaken terms parts) (sym c.write_out.ensures.same) (taken_still terms parts staged c.write_out.new.staging.records c.write_out.new.staging.entries all.has),
      λ told. c.in_ok-write_out.ensures.written told terms parts refl (all.put told),
    )

pub returns-in_err-need-clause-refused : goal.returns-in_err-need-clause-refused
returns-in_err-need-clause-refused g c = λ t stream holds.
    let terms : Given = given_of c.args.terms.now in
    let is = c.requires.staging in
    let filled = c.in_ok-fill.ensures.filled in
    let all : HasStream terms stream c.take_chunks.new.staging g.D.Disk.tells (contents (g.D.Disk.history c.take_chunks.new.disk)) =
    whole_stream terms c.fill.new.chunker c.finish.new.self c.take_chunks.new.chunker c.fill.new.staging c.take_chunks.new.staging g.D.Disk.tells (contents (g.D.Disk.history c.fill.new.disk)) (contents (g.D.Disk.history c.take_chunks.new.disk))
    g.F.Files.tells (g.F.Files.files c.args.files.now) c.args.name.now filled (c.finish.ensures.fed (cut_in terms.sizes) filled.stream filled.taken filled.fed)
    (ap (λ (d : Chunking). d.finished) c.finish.ensures.finished) c.in_ok-take_chunks.ensures.taken t stream holds in
    let now : held_count c.take_chunks.new.space ≡ held_count c.args.space.now =
    (c.take_chunks.ensures.grows.owners is.base is.first (c.fill.ensures.grows.owners is.base is.first is.owns)).held ∙ sym is.owns.held in
    let p = err_from_is_err_and c.from_residual-in_err-need.result c.from_residual-in_err-need.ensures.1 in
    rw (p.1, p.2)
    (refuses_whole terms c.take_chunks.new.space c.take_chunks.new.staging (chunks (cut_in terms.sizes) stream) (held_count c.args.space.now) (held_count c.take_chunks.new.space) (omega (arith, c.args.terms.now.shape.in_range.extent_low))
    c.in_ok-take_chunks.ensures.staging all.has now c.in_err-need.field-0.0
    (c.in_err-need.ensures.refused (chunks (cut_in terms.sizes) stream) all.has))
