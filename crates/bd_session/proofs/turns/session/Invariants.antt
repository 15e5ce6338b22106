use Rattle.bd_files.specs.World.{world}
use Rattle.bd_store.specs.Attempts.{scene}
use Rattle.bd_session.proofs.AnsweredLemmas.{HasTurned}
use Rattle.bd_session.proofs.turns.session.Given as goal

abbrev pub invariant-loop-command : goal.invariant-loop-command
invariant-loop-command g l =
    HasTurned g.D.Disk.tells g.F.Files.tells g.O.Sink.tells l.commands.items
    (scene l.fn.store (world g.D.Disk g.F.Files g.O.Sink l.fn.disk l.fn.files l.fn.out)) l.report l.command-index (scene l.store (world g.D.Disk g.F.Files g.O.Sink l.disk l.files l.out))
