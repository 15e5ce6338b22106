use Rattle.std.proofs.Common.{◌∙◌, ap, refl, arith}
use Rattle.bd_files.specs.World.{counts, world}
use Rattle.mfdedup.specs.declared.progress.Progress.{Progress}
use Rattle.mfdedup.proofs.BlankLemmas.{blanked_works, memory_works, untargeted_works}
use Rattle.mfdedup.proofs.once.blank.Goals as goal

pub returns-in-Ok-put_zeros : goal.returns-in-Ok-put_zeros
returns-in-Ok-put_zeros g c =
    let ok = c.in-Ok-put_zeros.ensures in
    let o = world g.D.Disk g.F.Files g.O.Sink c.args.disk.now c.args.files.now c.args.out.now in
    let mid = world g.D.Disk g.F.Files g.O.Sink c.args.disk.now c.put_zeros.new.files c.args.out.now in
    record {
      works = blanked_works c.args.length c.args.name.now c.note_answer.result o (world g.D.Disk g.F.Files g.O.Sink c.args.disk.now c.put_zeros.new.files c.note_answer.new.out) refl refl ok.strays ok.others mid (c.note_answer.ensures.notes mid)
          (λ i. counts (g.D.Disk.faults c.args.disk.now) (ok.sources i) (ok.cause.kept i) (g.O.Sink.faults c.args.out.now)) refl refl (λ told. omega arith) ok.ok ok.finished;
    }

pub returns-in-Err-put_zeros : goal.returns-in-Err-put_zeros
returns-in-Err-put_zeros g c =
    let failed = c.in-Err-put_zeros.ensures in
    record {
      works = untargeted_works c.args.length c.args.name.now c.ending.result (world g.D.Disk g.F.Files g.O.Sink c.args.disk.now c.args.files.now c.args.out.now) (world g.D.Disk g.F.Files g.O.Sink c.args.disk.now c.put_zeros.new.files c.args.out.now) refl refl failed.strays failed.others
          (record { commands = ap (λ (p : Progress). p.commands.items) c.ending.ensures ∙ c.in-Ok.ensures.commands; answers = ap (λ (p : Progress). p.answers.items) c.ending.ensures ∙ c.in-Ok.ensures.answers; clocks = ap (λ (p : Progress). p.clocks.items) c.ending.ensures ∙ c.in-Ok.ensures.clocks })
          (ap (λ (p : Progress). p.end) c.ending.ensures) refl failed.sources failed.cause.later failed.cause.failed refl refl (λ told. omega arith);
    }

pub returns-in-Err : goal.returns-in-Err
returns-in-Err g c = record {
  works = memory_works c.args.length c.args.name.now c.none.result (world g.D.Disk g.F.Files g.O.Sink c.args.disk.now c.args.files.now c.args.out.now)
      (record { commands = c.none.ensures.commands; answers = c.none.ensures.answers; clocks = c.none.ensures.clocks }) c.none.ensures.end;
}
