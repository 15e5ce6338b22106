use Rattle.std.proofs.Common.{◌∙◌, Err, Some, ap, arith, length, refl}
use Rattle.bd_files.specs.World.{world}
use Rattle.bd_session.specs.declared.report.SessionEnd.TheVariants.{OutputFault, OutOfMemory}
use Rattle.bd_session.proofs.LoopSteps.{all_turned, command_at, ended, none_begun, not_begun, none_turned, turned}
use Rattle.bd_session.proofs.turns.session.Goals as goal

pub returns-in-Err : goal.returns-in-Err
returns-in-Err g c = record { meets = none_begun _ _ c.none.result c.requires.opened c.none.ensures.answers c.none.ensures.clocks c.none.ensures.end }

pub loop-command-init : goal.loop-command-init
loop-command-init g c = record {
  turns = none_turned _ _ _ _ c.in-Ok.ensures.answers.0 c.in-Ok.ensures.clocks.0;
  count = ap length c.in-Ok.ensures.answers.0;
  answers_room = omega (arith, c.in-Ok.ensures.answers.1, c.len.ensures);
  clocks_room = omega (arith, c.in-Ok.ensures.clocks.1, c.len.ensures);
  ending = c.in-Ok.ensures.end;
  opened = c.requires.opened;
}

pub returns : goal.returns
returns g c = record { meets = all_turned _ _ _ c.loop-command.command-index _ c.requires.opened c.loop-command.invariant (omega (arith, c.loop-command-test.false, ap length c.as_slice-command-items.ensures)) }

pub returns-in-Scrub : goal.returns-in-Scrub
returns-in-Scrub g c = record {
  meets = not_begun _ _ _ _ _ c.requires.opened c.loop-command.invariant
      (command_at _ _ _ _ c.as_slice-command-items.ensures c.loop-command-test.true c.command-item.is ∙ ap Some c.in-Scrub.is) _ c.ending.ensures;
}

pub returns-in-Err-carry_out : goal.returns-in-Err-carry_out
returns-in-Err-carry_out g c = record {
  meets = ended _ _ _ _ _ c.requires.opened c.loop-command.invariant _ (command_at _ _ _ _ c.as_slice-command-items.ensures c.loop-command-test.true c.command-item.is) _ _
      (c.in-Err-carry_out.ensures.meets (world g.D.Disk g.F.Files g.O.Sink c.loop-command.disk c.loop-command.files c.loop-command.out)) _ (c.end_of.ensures, record { faults = refl; handed = refl }) _ c.ending-in-Err-carry_out.ensures;
}

pub returns-in-Err-Output : goal.returns-in-Err-Output
returns-in-Err-Output g c = record {
  meets = ended _ _ _ _ _ c.requires.opened c.loop-command.invariant _ (command_at _ _ _ _ c.as_slice-command-items.ensures c.loop-command-test.true c.command-item.is) _ _
      (c.in-Ok-carry_out.ensures.meets (world g.D.Disk g.F.Files g.O.Sink c.loop-command.disk c.loop-command.files c.loop-command.out)) OutputFault (record { later = c.tell_answer.ensures.later; faults = rw c.in-Err-Output.field-0-is at c.in-Err-Output.ensures.cause; handed = c.in-Err-Output.ensures.part }) _ c.ending-in-Err-Output.ensures;
}

pub returns-in-Err-Memory : goal.returns-in-Err-Memory
returns-in-Err-Memory g c = record {
  meets = ended _ _ _ _ _ c.requires.opened c.loop-command.invariant _ (command_at _ _ _ _ c.as_slice-command-items.ensures c.loop-command-test.true c.command-item.is) _ _
      (c.in-Ok-carry_out.ensures.meets (world g.D.Disk g.F.Files g.O.Sink c.loop-command.disk c.loop-command.files c.loop-command.out)) OutOfMemory ((rw c.in-Err-Memory.field-0-is at c.in-Err-Memory.ensures.cause).1, record { faults = (rw c.in-Err-Memory.field-0-is at c.in-Err-Memory.ensures.cause).0; handed = ap g.O.Sink.handed (c.tell_answer.ensures.memory (c.in-Err-Memory.is ∙ ap Err c.in-Err-Memory.field-0-is)) }) _ c.ending-in-Err-Memory.ensures;
}

pub loop-command-preserved : goal.loop-command-preserved
loop-command-preserved g c =
    turned _ _ c.loop-command.report _ _ c.loop-command.invariant _ (command_at _ _ _ _ c.as_slice-command-items.ensures c.loop-command-test.true c.command-item.is) _ _ _
    (record { meets = (c.in-Ok-carry_out.ensures.meets (world g.D.Disk g.F.Files g.O.Sink c.loop-command.disk c.loop-command.files c.loop-command.out)); clock = c.in-Ok-tell_answer.ensures.moment; faults = c.in-Ok-tell_answer.ensures.cause; handed = c.in-Ok-tell_answer.ensures.put })
    _ c.push.ensures.items c.push-in-Ok-tell_answer.ensures.items c.push.ensures.spare c.push-in-Ok-tell_answer.ensures.spare refl
