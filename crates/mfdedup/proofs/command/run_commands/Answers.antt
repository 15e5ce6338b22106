use Rattle.std.proofs.Common.{◌∙◌, inl, inr, refl}
use Rattle.bd_disk.proofs.RunLemmas.{looked, nothing_written}
use Rattle.bd_files.specs.World.{world}
use Rattle.mfdedup.proofs.Begun.{no_store, only_disk, opens_at_rest}
use Rattle.mfdedup.proofs.command.run_commands.Goals as goal

pub returns-in-Ok : goal.returns-in-Ok
returns-in-Ok g c = record {
  runs = inr (record {
    given = refl;
    store = c.in-Ok.store;
    opened = world g.D.Disk g.F.Files g.O.Sink c.open_store.new.disk c.args.files.now c.args.out.now;
    opens = record {
      finds = c.in-Ok.ensures.opened;
      worn = c.in-Ok.ensures.fresh.0;
      held = c.in-Ok.ensures.fresh.1;
      reads = λ told. record { writes = nothing_written c.in-Ok.ensures.disk told; looks = looked c.in-Ok.ensures.disk told };
      synced = c.in-Ok.ensures.synced;
      rests = c.in-Ok.ensures.rests;
      beside = only_disk g.D.Disk (world g.D.Disk g.F.Files g.O.Sink c.args.disk.now c.args.files.now c.args.out.now) c.open_store.new.disk c.in-Ok.ensures.disk.bytes c.in-Ok.ensures.cause.cause;
    };
    left = c.session-report.new.store;
    ending = c.session-report.result.end;
    ends = c.end_of_session.ensures;
    meets = c.session-report.ensures.meets;
    catalogues = λ told. c.session-report.ensures.meets.catalogues told (opens_at_rest (c.in-Ok.ensures.rests told));
  });
}

pub returns-in-Err : goal.returns-in-Err
returns-in-Err g c = record {
  runs = inl (no_store g.D.Disk c.none.result c.in-Err.fault (world g.D.Disk g.F.Files g.O.Sink c.args.disk.now c.args.files.now c.args.out.now) c.open_store.new.disk
      (record { commands = c.none.ensures.commands; answers = c.none.ensures.answers; clocks = c.none.ensures.clocks }) (c.none.ensures.end ∙ c.end_of_opening.ensures) c.in-Err.ensures.opened c.in-Err.ensures.cause
      (λ told. record { writes = nothing_written c.in-Err.ensures.disk told; looks = looked c.in-Err.ensures.disk told }) c.in-Err.ensures.synced c.in-Err.ensures.disk.bytes);
}
