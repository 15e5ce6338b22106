use Rattle.std.proofs.Common.{◌≡◌, ◌∙◌, List, ap, sym, subst, refl, inl, slice_index_or}
use Rattle.bd_model.specs.declared.command.Command.{Command}
use Rattle.bd_session.proofs.Apart.{distinct_marks_tell_apart}
use Rattle.mfdedup.specs.Commands.{RunsCommands}
use Rattle.bd_files.specs.World.{world}
use Rattle.bd_words.specs.Words.{ToRun}
use Rattle.mfdedup.specs.Works.{ComesOfWords}
use Rattle.mfdedup.proofs.UnbuiltWords.{asked_unbuilt, unopened_memory}
use Rattle.mfdedup.proofs.CommandWords.{run_works}
use Rattle.mfdedup.proofs.run.run_asked.Goals as goal

pub returns-in-Ok : goal.returns-in-Ok
returns-in-Ok g c = record {
  works = λ command only.
      let o = world g.D.Disk g.F.Files g.O.Sink c.args.disk.now c.args.files.now c.args.out.now in
      let now = world g.D.Disk g.F.Files g.O.Sink c.run_commands.new.disk c.run_commands.new.files c.run_commands.new.out in
      let is : c.in-Some.command.now ≡ command = c.in-Some.ensures.item ∙ ap (λ (xs : List Command). slice_index_or xs 0 c.in-Some.command.now) only in
      subst (λ (x : Command). ComesOfWords g.D.Disk.tells g.F.Files.tells g.O.Sink.tells (ToRun x) c.run_commands.result o now) is
      (run_works distinct_marks_tell_apart c.in-Some.command.now (sym c.is_built.ensures ∙ c.if-is_built.true) c.run_commands.result o now
      (subst (λ (cs : List Command). RunsCommands g.D.Disk.tells g.F.Files.tells g.O.Sink.tells cs c.run_commands.result o now) c.in-Ok.ensures c.run_commands.ensures.runs));
}

pub returns-in-Err : goal.returns-in-Err
returns-in-Err g c = record {
  works = λ command only.
      let o = world g.D.Disk g.F.Files g.O.Sink c.args.disk.now c.args.files.now c.args.out.now in
      let is : c.in-Some.command.now ≡ command = c.in-Some.ensures.item ∙ ap (λ (xs : List Command). slice_index_or xs 0 c.in-Some.command.now) only in
      subst (λ (x : Command). ComesOfWords g.D.Disk.tells g.F.Files.tells g.O.Sink.tells (ToRun x) c.none.result o o) is
      (run_works distinct_marks_tell_apart c.in-Some.command.now (sym c.is_built.ensures ∙ c.if-is_built.true) c.none.result o o
      (inl (unopened_memory c.none.result o (record { commands = c.none.ensures.commands; answers = c.none.ensures.answers; clocks = c.none.ensures.clocks }) c.none.ensures.end)));
}

pub returns-else-is_built : goal.returns-else-is_built
returns-else-is_built g c = record {
  works = λ command only.
      let o = world g.D.Disk g.F.Files g.O.Sink c.args.disk.now c.args.files.now c.args.out.now in
      let is : c.in-Some.command.now ≡ command = c.in-Some.ensures.item ∙ ap (λ (xs : List Command). slice_index_or xs 0 c.in-Some.command.now) only in
      let none = c.none-else-is_built in
      subst (λ (x : Command). ComesOfWords g.D.Disk.tells g.F.Files.tells g.O.Sink.tells (ToRun x) none.result o o) is
      (asked_unbuilt _ _ _ c.in-Some.command.now none.result o (record { ends = none.ensures.end; nothing = record { commands = none.ensures.commands; answers = none.ensures.answers; clocks = none.ensures.clocks }; untouched = refl }) (sym c.is_built.ensures ∙ c.if-is_built.false));
}
