use Rattle.std.proofs.Common.{◌∙◌, sym, subst, ap, refl, IsErr, Err, inl, arith}
use Rattle.bd_disk.proofs.Frames.{leaves_same, made_none}
use Rattle.bd_disk.proofs.RunLemmas.{work_written}
use Rattle.bd_catalog.specs.Opening.{opened}
use Rattle.bd_recover.proofs.Found.{unmarked}
use Rattle.bd_recover.specs.declared.fault.FormatFault.TheVariants.{OutOfMemory}
use Rattle.bd_model.specs.Sizes.{sizes_of}
use Rattle.bd_files.specs.World.{with_disk, with_sink}
use Rattle.bd_words.specs.Words.{ToFormat}
use Rattle.mfdedup.specs.Works.{ComesOfWords}
use Rattle.mfdedup.specs.declared.progress.Progress.{Progress}
use Rattle.mfdedup.proofs.FormatLemmas.{formatted_works, unformatted_works}
use Rattle.mfdedup.proofs.once.format.Goals as goal
use Rattle.mfdedup.proofs.once.format.Goals.{in-Ok-format, in-Err-format}

pub returns-after-format : goal.returns-after-format
returns-after-format g c = record {
  works = λ kept.
      let o = with_sink g.O.Sink (with_disk g.D.Disk kept c.args.disk.now) c.args.out.now in
      elim c.match-format.branch [
        | in-Ok-format w ↦
            let ok = w.in-Ok-format.ensures in
            subst (λ out. ComesOfWords g.D.Disk.tells (Unit {0}) g.O.Sink.tells (ToFormat (sizes_of c.args.shape)) c.match-format.result o (with_sink g.O.Sink (with_disk g.D.Disk kept c.format.new.disk) out)) (sym w.out-is)
            (subst (λ (p : Progress). ComesOfWords g.D.Disk.tells (Unit {0}) g.O.Sink.tells (ToFormat (sizes_of c.args.shape)) p o (with_sink g.O.Sink (with_disk g.D.Disk kept c.format.new.disk) w.note_answer.new.out)) (sym w.result-is)
            (formatted_works c.args.shape w.note_answer.result o (with_sink g.O.Sink (with_disk g.D.Disk kept c.format.new.disk) c.args.out.now) (with_sink g.O.Sink (with_disk g.D.Disk kept c.format.new.disk) w.note_answer.new.out)
            (w.note_answer.ensures.notes kept) ok.disk.bytes (λ i. record kept.counts { disk = ok.cause.cause i; sink = g.O.Sink.faults c.args.out.now }) refl refl refl refl refl ok.answer.refused ok.made.stands (λ told. (ok.made.rests told).settled) (work_written ok.disk) ok.stops (λ told. ok.synced (λ e. cc e) told)))
        | in-Err-format w ↦
            let failed = w.in-Err-format.ensures in
            subst (λ out. ComesOfWords g.D.Disk.tells (Unit {0}) g.O.Sink.tells (ToFormat (sizes_of c.args.shape)) c.match-format.result o (with_sink g.O.Sink (with_disk g.D.Disk kept c.format.new.disk) out)) (sym w.out-is)
            (subst (λ (p : Progress). ComesOfWords g.D.Disk.tells (Unit {0}) g.O.Sink.tells (ToFormat (sizes_of c.args.shape)) p o (with_sink g.O.Sink (with_disk g.D.Disk kept c.format.new.disk) c.args.out.now)) (sym w.result-is)
            (unformatted_works g.D.Disk c.args.shape w.ending.result w.in-Err-format.fault o c.format.new.disk
            (record { commands = ap (λ (p : Progress). p.commands.items) w.ending.ensures ∙ c.in-Ok.ensures.commands; answers = ap (λ (p : Progress). p.answers.items) w.ending.ensures ∙ c.in-Ok.ensures.answers; clocks = ap (λ (p : Progress). p.clocks.items) w.ending.ensures ∙ c.in-Ok.ensures.clocks })
            (ap (λ (p : Progress). p.end) w.ending.ensures ∙ w.end_of_format.ensures) failed.disk.bytes failed.cause failed.answer.refused failed.answer.untouched (λ told e. failed.memory (ap Err e) told) (work_written failed.disk) failed.stops (λ told no. failed.synced (λ e. no (cc e)) told)))
      ];
}

pub returns-in-Err : goal.returns-in-Err
returns-in-Err g c = record {
  works = λ kept.
      let o = with_sink g.O.Sink (with_disk g.D.Disk kept c.args.disk.now) c.args.out.now in
      unformatted_works g.D.Disk c.args.shape c.none.result OutOfMemory o c.args.disk.now (record { commands = c.none.ensures.commands; answers = c.none.ensures.answers; clocks = c.none.ensures.clocks }) c.none.ensures.end refl (record { later = omega arith; cause = refl })
      (λ told. tt) (λ told fault is. made_none _ _) (λ told e. refl) (λ told. made_none _ _)
      (λ told none settled. leaves_same refl (record { each = λ image now. inl (subst (λ m. IsErr (opened m)) (sym (settled.each image now)) (unmarked _ none)) }))
      (λ told no. absurd (no refl));
}
