use Rattle.std.proofs.Common.{sym, ◌∙◌, ap, arith, refl}
use Rattle.std.proofs.lemmas.Result.{err_from_is_err_and}
use Rattle.bd_disk.specs.History.{contents}
use Rattle.bd_disk.proofs.RunLemmas.{no_writes}
use Rattle.bd_gear.specs.Chunking.{Chunking}
use Rattle.bd_model.specs.Sizes.{sizes_of}
use Rattle.bd_intake.specs.Firsts.{cut_in}
use Rattle.bd_intake.specs.Given.{given_of}
use Rattle.bd_intake.proofs.DrainLemmas.{advanced, drains_none, drains_one, next-short, refuses_one, writes_on}
use Rattle.bd_intake.proofs.StagedChunks.{grows_both}
use Rattle.bd_intake.proofs.stream.take_chunks.Goals as goal

pub loop-len-init : goal.loop-len-init
loop-len-init g c = record {
  disk = no_writes;
  faults = refl;
  drains = drains_none (given_of c.args.terms.now) g.D.Disk.tells c.args.space.now c.args.staging.now c.args.chunker.now (contents (g.D.Disk.history c.args.disk.now)) c.requires.staging c.requires.fed;
}

pub take_chunk-taken-requires-clause-short : goal.take_chunk-taken-requires-clause-short
take_chunk-taken-requires-clause-short g c =
    let s = sizes_of c.args.terms.now.shape in
    let fed = c.loop-len.invariant.drains.fed in
    let short = next-short s c.loop-len.chunker c.in-Some.len fed (sym (c.in-Some.ensures.next (cut_in s) fed.stream fed.taken fed.fed)) in
    omega (arith, short, c.chunk.ensures.len)

pub loop-len-preserved : goal.loop-len-preserved
loop-len-preserved g c =
    let s = sizes_of c.args.terms.now.shape in
    let told = g.D.Disk.tells in
    let body = c.chunk.result.now in
    record {
      disk = writes_on s c.take_chunk-taken.ensures.grows c.loop-len.invariant.disk c.take_chunk-taken.ensures.disk;
      faults = c.in_ok-taken.ensures.cause.cause ∙ c.loop-len.invariant.faults;
      drains = drains_one (given_of c.args.terms.now) told body c.args.space.now c.loop-len.space c.take_chunk-taken.new.space
          c.args.staging.now c.loop-len.staging c.take_chunk-taken.new.staging c.args.chunker.now c.loop-len.chunker c.advance.new.self
          (contents (g.D.Disk.history c.args.disk.now)) (contents (g.D.Disk.history c.loop-len.disk)) (contents (g.D.Disk.history c.take_chunk-taken.new.disk))
          c.loop-len.invariant.drains
          (record {
            staging = c.in_ok-taken.ensures.staging;
            finished = ap (λ (d : Chunking). d.finished) c.advance.ensures.removed ∙ c.next_length.ensures.finished;
            grows = c.take_chunk-taken.ensures.grows;
            fed = advanced s c.loop-len.chunker c.next_length.new.self c.advance.new.self c.in-Some.len body c.chunk.ensures.bytes c.next_length.ensures.fed c.advance.ensures.taken;
            has = c.in_ok-taken.ensures.taken;
            put = c.in_ok-taken.ensures.put;
          });
    }

pub returns-in_err-taken-clause-disk : goal.returns-in_err-taken-clause-disk
returns-in_err-taken-clause-disk g c = writes_on (sizes_of c.args.terms.now.shape) c.take_chunk-taken.ensures.grows c.loop-len.invariant.disk c.take_chunk-taken.ensures.disk

pub returns-in_err-taken-clause-grows : goal.returns-in_err-taken-clause-grows
returns-in_err-taken-clause-grows g c = grows_both c.loop-len.invariant.drains.grows c.take_chunk-taken.ensures.grows

pub returns-in_err-taken-clause-refused : goal.returns-in_err-taken-clause-refused
returns-in_err-taken-clause-refused g c = λ stream more taken fed has ended.
    let s = sizes_of c.args.terms.now.shape in
    let body = c.chunk.result.now in
    let p = err_from_is_err_and c.from_residual.result c.from_residual.ensures.1 in
    rw (p.1, p.2)
    (refuses_one (given_of c.args.terms.now) g.D.Disk.tells c.args.space.now c.loop-len.space c.args.staging.now c.loop-len.staging c.args.chunker.now c.loop-len.chunker c.advance.new.self
    (contents (g.D.Disk.history c.args.disk.now)) (contents (g.D.Disk.history c.loop-len.disk)) body c.in_err-taken.field-0.0 (omega (arith, c.args.terms.now.shape.in_range.extent_low)) c.requires.staging c.loop-len.invariant.drains
    (ap (λ (d : Chunking). d.finished) c.advance.ensures.removed ∙ c.next_length.ensures.finished)
    (advanced s c.loop-len.chunker c.next_length.new.self c.advance.new.self c.in-Some.len body c.chunk.ensures.bytes c.next_length.ensures.fed c.advance.ensures.taken)
    c.in_err-taken.ensures.refused stream more taken fed has ended)

pub returns-clause-taken : goal.returns-clause-taken
returns-clause-taken g c = λ stream taken fed has.
    let s = sizes_of c.args.terms.now.shape in
    let drains = c.loop-len.invariant.drains in
    let goes = drains.goes stream taken fed has in
    record {
      all = goes.all;
      fed = c.next_length.ensures.fed (cut_in s) stream goes.all goes.fed;
      has = goes.has;
      put = goes.put;
      ended = λ over. c.in_default.ensures.ended (drains.finished ∙ over) (cut_in s) stream goes.all goes.fed;
    }
