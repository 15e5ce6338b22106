use Rattle.std.proofs.Common.{subst, sym, replicate, lit≤}
use Rattle.bd_files.specs.Files.{Holds}
use Rattle.bd_files.proofs.FileLemmas.{holds_what_was_put}
use Rattle.bd_session.proofs.tests.files.round_trip.Goals as goal

-- what was begun is there, with its four bytes
pub put-requires : goal.put-requires
put-requires g c = record {
  there = λ told. (
    replicate 4 0,
    subst (λ files. Holds files c.args.name.now (replicate 4 0)) (sym (c.in_ok-begin.ensures.ok told)) (holds_what_was_put _ c.args.name.now (replicate 4 0)),
    lit≤ tt,
  );
}
