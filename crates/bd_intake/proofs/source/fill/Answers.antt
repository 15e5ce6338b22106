use Rattle.std.proofs.Common.{◌≡◌, ◌++◌, ◌^◌, ◌<◌, sym, ◌∙◌, subst, arith, refl, length, take, drop, inl}
use Rattle.std.proofs.lemmas.Result.{err_from_is_err_and}
use Rattle.bd_disk.specs.History.{contents}
use Rattle.bd_disk.proofs.RunLemmas.{no_writes}
use Rattle.bd_files.specs.Files.{Fetches}
use Rattle.bd_model.specs.Chunks.{chunks}
use Rattle.bd_model.specs.Sizes.{sizes_of}
use Rattle.bd_space.specs.Allotment.{held_count}
use Rattle.bd_intake.specs.Firsts.{cut_in}
use Rattle.bd_intake.specs.Given.{given_of}
use Rattle.bd_intake.specs.Needs.{RefusesChunks}
use Rattle.bd_intake.proofs.DrainLemmas.{writes_on}
use Rattle.bd_intake.proofs.FillLemmas.{ended, filled_all, filled_small, fills_more, missing_more, rest_of}
use Rattle.bd_intake.proofs.StagedChunks.{grows_both, grows_none}
use Rattle.bd_intake.proofs.source.fill.Goals as goal

pub loop-count-init : goal.loop-count-init
loop-count-init g c = record {
  disk = no_writes;
  faults = refl;
  sources = refl;
  targets = refl;
  strays = λ t. record { later = omega arith; cause = inl refl };
  same = λ t. refl;
  unfinished = λ t. refl;
  staging = c.requires.staging;
  still_open = c.requires.open;
  short = c.requires.short;
  grows = grows_none c.args.space.now c.args.staging.now c.args.staging.now refl refl;
  fills = c.requires.fills;
}

pub returns-then-count-eq0-clause-filled : goal.returns-then-count-eq0-clause-filled
returns-then-count-eq0-clause-filled g c =
    let files = g.F.Files.files c.args.files.now in
    let now = c.loop-count.invariant in
    filled_all (given_of c.args.terms.now) c.loop-count.at c.loop-count.chunker c.loop-count.staging g.D.Disk.tells (contents (g.D.Disk.history c.loop-count.disk)) g.F.Files.tells files c.args.name.now now.fills
    (λ t stream holds.
    ended files c.args.name.now c.fetch_piece.new.into c.loop-count.at (length c.loop-count.buffer) c.in_ok-count.count c.if-count-eq0.true (omega arith)
    (subst (λ fs. Fetches fs c.args.name.now c.loop-count.at (length c.loop-count.buffer) c.in_ok-count.count c.fetch_piece.new.into) (now.same t) (c.in_ok-count.ensures.read t)) stream holds)

pub returns-in_err-take_piece-clause-disk : goal.returns-in_err-take_piece-clause-disk
returns-in_err-take_piece-clause-disk g c = writes_on (sizes_of c.args.terms.now.shape) c.take_piece.ensures.grows c.loop-count.invariant.disk c.take_piece.ensures.disk

pub returns-in_err-take_piece-clause-grows : goal.returns-in_err-take_piece-clause-grows
returns-in_err-take_piece-clause-grows g c = grows_both c.loop-count.invariant.grows c.take_piece.ensures.grows

pub returns-in_err-take_piece-clause-refused : goal.returns-in_err-take_piece-clause-refused
returns-in_err-take_piece-clause-refused g c = λ t stream holds.
    let terms = given_of c.args.terms.now in
    let cut = cut_in terms.sizes in
    let now = c.loop-count.invariant in
    let into = c.fetch_piece.new.into in
    let n = c.in_ok-count.count in
    let piece = take n into in
    let is = c.requires.staging in
    let held : held_count c.loop-count.space ≡ held_count c.args.space.now = (now.grows.owners is.base is.first is.owns).held ∙ sym is.owns.held in
    let whole = rest_of terms c.loop-count.at (length c.loop-count.buffer) n c.loop-count.chunker c.loop-count.staging g.D.Disk.tells (contents (g.D.Disk.history c.loop-count.disk)) g.F.Files.tells (g.F.Files.files c.args.files.now) c.args.name.now into piece
    now.fills (omega (arith, c.in_ok-count.ensures.within, c.fetch_piece.auto.into))
    (λ told. subst (λ fs. Fetches fs c.args.name.now c.loop-count.at (length c.loop-count.buffer) n into) (now.same told) (c.in_ok-count.ensures.read told)) refl t stream holds in
    let p = err_from_is_err_and c.from_residual-in_err-take_piece.result c.from_residual-in_err-take_piece.ensures.1 in
    rw (p.1, p.2)
    (subst (λ h. RefusesChunks terms (chunks cut stream) h c.in_err-take_piece.field-0.0) held
    (subst (λ xs. RefusesChunks terms (chunks cut xs) (held_count c.loop-count.space) c.in_err-take_piece.field-0.0) whole
    (c.in_err-take_piece.ensures.refused now.fills.front (drop (length (now.fills.front ++ piece)) stream) now.fills.taken now.fills.fed now.fills.has)))

pub overflow_add-at : goal.overflow_add-at
overflow_add-at g c =
    let now = c.loop-count.invariant in
    let small : c.loop-count.at < 2 ^ 52 =
    filled_small c.args.terms.now c.loop-count.at c.loop-count.chunker c.loop-count.staging c.loop-count.space g.D.Disk.tells (contents (g.D.Disk.history c.loop-count.disk)) g.F.Files.tells (g.F.Files.files c.args.files.now) c.args.name.now
    now.staging now.fills now.short in
    omega (arith, small, c.in_ok-count.ensures.within)

pub loop-count-smaller : goal.loop-count-smaller
loop-count-smaller g c =
    let now = c.loop-count.invariant in
    let small : c.loop-count.at < 2 ^ 52 =
    filled_small c.args.terms.now c.loop-count.at c.loop-count.chunker c.loop-count.staging c.loop-count.space g.D.Disk.tells (contents (g.D.Disk.history c.loop-count.disk)) g.F.Files.tells (g.F.Files.files c.args.files.now) c.args.name.now
    now.staging now.fills now.short in
    omega (arith, small, c.if-count-eq0.false)

pub loop-count-preserved : goal.loop-count-preserved
loop-count-preserved g c =
    let terms = given_of c.args.terms.now in
    let files = g.F.Files.files c.args.files.now in
    let other = g.F.Files.files c.loop-count.files in
    let now = c.loop-count.invariant in
    let into = c.fetch_piece.new.into in
    let n = c.in_ok-count.count in
    record {
      disk = writes_on (sizes_of c.args.terms.now.shape) c.take_piece.ensures.grows now.disk c.take_piece.ensures.disk;
      faults = c.in_ok-take_piece.ensures.cause.cause ∙ now.faults;
      sources = c.in_ok-count.ensures.cause.cause ∙ now.sources;
      targets = c.fetch_piece.ensures.files.targets ∙ now.targets;
      strays = λ t. missing_more files other c.args.name.now (g.F.Files.strays c.args.files.now) (g.F.Files.strays c.loop-count.files) (g.F.Files.strays c.fetch_piece.new.files) (now.same t) (now.strays t) (c.fetch_piece.ensures.files.strays t);
      same = λ t. c.fetch_piece.ensures.files.same t ∙ now.same t;
      unfinished = λ t. c.fetch_piece.ensures.files.unfinished t ∙ now.unfinished t;
      staging = c.in_ok-take_piece.ensures.staging;
      still_open = c.in_ok-take_piece.ensures.open;
      short = c.in_ok-take_piece.ensures.short;
      grows = grows_both now.grows c.take_piece.ensures.grows;
      fills = fills_more terms c.loop-count.at (length c.loop-count.buffer) n g.D.Disk.tells g.F.Files.tells c.loop-count.chunker c.take_piece.new.chunker c.loop-count.staging c.take_piece.new.staging
          (contents (g.D.Disk.history c.loop-count.disk)) (contents (g.D.Disk.history c.take_piece.new.disk)) files c.args.name.now into (take n into)
          now.fills (omega (arith, c.in_ok-count.ensures.within, c.fetch_piece.auto.into))
          (λ told. subst (λ fs. Fetches fs c.args.name.now c.loop-count.at (length c.loop-count.buffer) n into) (now.same told) (c.in_ok-count.ensures.read told)) refl
          c.in_ok-take_piece.ensures.taken;
    }
