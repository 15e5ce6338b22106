use Rattle.std.proofs.Common.{arith}
use Rattle.bd_files.proofs.FileLemmas.{begins_only}
use Rattle.bd_restore.proofs.Frames.{target_none, target_once}
use Rattle.bd_restore.proofs.PutLemmas.{place_within}
use Rattle.bd_restore.specs.Target.{held}
use Rattle.bd_restore.proofs.put.put_at.Goals as goal

pub put-requires : goal.put-requires
put-requires g c = record {
  there = λ told.
      let target = c.requires.there told in
      (held (g.F.Files.files c.args.files.now) c.args.name.now, record { there = target.there }, omega (arith, place_within c.args.tables.now c.args.index c.requires.within, target.long));
}

pub returns-then-entry-found-clause-files : goal.returns-then-entry-found-clause-files
returns-then-entry-found-clause-files g c = target_none

pub returns-then-is_err-clause-files : goal.returns-then-is_err-clause-files
returns-then-is_err-clause-files g c = target_once c.put.ensures.sources c.put.ensures.strays c.put.ensures.others (λ told. begins_only (c.put.ensures.unfinished told))

pub returns-clause-files : goal.returns-clause-files
returns-clause-files g c = target_once c.put.ensures.sources c.put.ensures.strays c.put.ensures.others (λ told. begins_only (c.put.ensures.unfinished told))
