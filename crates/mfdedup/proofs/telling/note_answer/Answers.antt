use Rattle.std.proofs.Common.{[], ◌∷◌, ◌++◌, ◌∙◌, ap, refl}
use Rattle.bd_files.specs.World.{with_disk, with_sink}
use Rattle.mfdedup.proofs.NotedLemmas.{alone_noted, alone_untold, untold}
use Rattle.mfdedup.proofs.telling.note_answer.Goals as goal

pub returns-in-Ok : goal.returns-in-Ok
returns-in-Ok g c = record {
  notes = λ kept. alone_noted c.args.answer c.in-Ok.moment _ (with_sink g.O.Sink (with_disk g.D.Disk kept c.args.disk.now) c.args.out.now) (with_sink g.O.Sink (with_disk g.D.Disk kept c.args.disk.now) c.tell_answer.new.out) refl c.requires.nothing.commands
      (c.push.ensures.items ∙ ap (λ xs. xs ++ c.args.answer ∷ []) c.requires.nothing.answers) (c.push-in-Ok.ensures.items ∙ ap (λ xs. xs ++ c.in-Ok.moment ∷ []) c.requires.nothing.clocks)
      c.in-Ok.ensures.cause c.in-Ok.ensures.moment c.in-Ok.ensures.put;
}

pub returns-in-Err : goal.returns-in-Err
returns-in-Err g c = record {
  notes = λ kept. alone_untold c.args.answer _ (with_sink g.O.Sink (with_disk g.D.Disk kept c.args.disk.now) c.args.out.now) (with_sink g.O.Sink (with_disk g.D.Disk kept c.args.disk.now) c.tell_answer.new.out) refl
      (record { commands = c.requires.nothing.commands; answers = c.requires.nothing.answers; clocks = c.requires.nothing.clocks }) c.in-Err.ensures.later
      (untold c.args.answer c.in-Err.field-0 _ _ c.requires.short c.in-Err.ensures.cause) c.in-Err.ensures.part;
}
