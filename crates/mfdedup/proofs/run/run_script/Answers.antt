use Rattle.std.proofs.Common.{inl, inr}
use Rattle.bd_files.specs.World.{world}
use Rattle.mfdedup.proofs.FetchLemmas.{read_none, read_one}
use Rattle.mfdedup.proofs.run.run_script.Goals as goal

pub returns-in-Ok : goal.returns-in-Ok
returns-in-Ok g c = record {
  runs = inr (record {
    commands = c.in-Ok.commands.items;
    read = world g.D.Disk g.F.Files g.O.Sink c.args.disk.now c.script_under.new.files c.args.out.now;
    reads = read_one (world g.D.Disk g.F.Files g.O.Sink c.args.disk.now c.args.files.now c.args.out.now) _ _ _ _ _ c.in-Ok.ensures.targets g.F.Files.tells c.args.name.now c.in-Ok.commands.items
        c.in-Ok.ensures.cause.cause c.in-Ok.ensures.script c.in-Ok.ensures.strays c.in-Ok.ensures.files c.in-Ok.ensures.unfinished;
    runs = c.run_commands.ensures.runs;
  });
}

pub returns-in-Err : goal.returns-in-Err
returns-in-Err g c = record {
  runs = inl (read_none (world g.D.Disk g.F.Files g.O.Sink c.args.disk.now c.args.files.now c.args.out.now) _ _ _ _ _ c.in-Err.ensures.targets g.F.Files.tells c.args.name.now c.none.result c.in-Err.end
      (record { commands = c.none.ensures.commands; answers = c.none.ensures.answers; clocks = c.none.ensures.clocks }) c.none.ensures.end c.in-Err.ensures.unread c.in-Err.ensures.cause c.in-Err.ensures.strays c.in-Err.ensures.files c.in-Err.ensures.unfinished);
}
