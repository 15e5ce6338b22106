use Rattle.std.proofs.Common.{Some, subst}
use Rattle.bd_session.proofs.Apart.{distinct_marks_tell_apart}
use Rattle.bd_files.specs.World.{world}
use Rattle.bd_words.specs.Words.{AsksFor}
use Rattle.mfdedup.proofs.UnbuiltWords.{format_asks, run_asks, script_asks, soak_asks}
use Rattle.mfdedup.proofs.ScriptWords.{script_works}
use Rattle.mfdedup.proofs.run.act.Goals as goal

pub returns-in-Format : goal.returns-in-Format
returns-in-Format g c = record {
  works = λ reading asks.
      let kept = world g.D.Disk g.F.Files g.O.Sink c.args.disk.now c.args.files.now c.args.out.now in
      format_asks reading c.in-Format.shape c.format.result kept (world g.D.Disk g.F.Files g.O.Sink c.format.new.disk c.args.files.now c.format.new.out) (subst (λ r. AsksFor reading (Some r)) c.in-Format.is asks) (c.format.ensures.works kept);
}

pub returns-in-Run : goal.returns-in-Run
returns-in-Run g c = record { works = λ reading asks. run_asks reading _ c.run_asked.result _ _ (subst (λ r. AsksFor reading (Some r)) c.in-Run.is asks) c.run_asked.ensures.works }

pub returns-in-Script : goal.returns-in-Script
returns-in-Script g c = record {
  works = λ reading asks. script_asks reading _ c.run_script.result _ _ (subst (λ r. AsksFor reading (Some r)) c.in-Script.is asks) (script_works distinct_marks_tell_apart _ c.run_script.result _ _ c.run_script.ensures.runs);
}

pub returns-in-Soak : goal.returns-in-Soak
returns-in-Soak g c = record {
  works = λ reading asks. soak_asks reading _ _ c.none.result _ (subst (λ r. AsksFor reading (Some r)) c.in-Soak.is asks) (record { commands = c.none.ensures.commands; answers = c.none.ensures.answers; clocks = c.none.ensures.clocks }) c.none.ensures.end;
}
