use Rattle.std.proofs.Common.{◌+◌, inl, refl, subst, arith, ◌≡◌, true}
use Rattle.bd_disk.specs.Memory.{FailsAs}
use Rattle.bd_disk.specs.Log.{call_of, seen}
use Rattle.bd_disk.proofs.Logs.{listed, log_noted, seen_again, set_at_clock}
use Rattle.bd_disk.proofs.log.ask.Goals as goal

pub returns-then-log-clause-err : goal.returns-then-log-clause-err
returns-then-log-clause-err c = λ first. c.refuse.ensures.failed first (call_of c.args.what)

pub returns-in-Err-clause-err : goal.returns-in-Err-clause-err
returns-in-Err-clause-err c = λ first. subst (λ m. FailsAs (call_of c.args.what) m (seen first c.refuse-in-Err.new.log)) (seen_again first c.args.log.now c.keep.new.kept c.keep.new.trace c.in-Err.ensures.kept_err) (c.refuse-in-Err.ensures.failed first (call_of c.args.what))

pub returns-then-fails-clause-log : goal.returns-then-fails-clause-log
returns-then-fails-clause-log c = log_noted c.args.log.now _ c.args.what refl c.in-Ok.ensures.kept c.in-Ok.ensures.trace refl refl c.requires

pub returns-else-fails-clause-log : goal.returns-else-fails-clause-log
returns-else-fails-clause-log c = log_noted c.args.log.now _ c.args.what refl c.in-Ok.ensures.kept c.in-Ok.ensures.trace refl refl c.requires

pub returns-then-fails-clause-err : goal.returns-then-fails-clause-err
returns-then-fails-clause-err c = λ first.
    let old = c.args.log.now in
    let new = record old { kept = c.keep.new.kept; trace = c.keep.new.trace; skipped = 0; moment = old.moment + 1; faults = c.saturating_add-log.result } in
    record {
      cause = inl ((set_at_clock first old c.requires).0 (c.fails_next-fails.ensures.0 c.if-fails.true), listed first old new c.args.what refl c.in-Ok.ensures.kept refl refl (omega arith) c.requires);
      faults = c.saturating_add-log.ensures;
    }

pub returns-else-fails-clause-ok : goal.returns-else-fails-clause-ok
returns-else-fails-clause-ok c = λ first.
    let old = c.args.log.now in
    let new = record old { kept = c.keep.new.kept; trace = c.keep.new.trace; skipped = 0; moment = old.moment + 1 } in
    record {
      not_set = λ set. let yes : c.fails_next-fails.result ≡ true = c.fails_next-fails.ensures.1 ((set_at_clock first old c.requires).1 set) in cc;
      listed = listed first old new c.args.what refl c.in-Ok.ensures.kept refl refl (omega arith) c.requires;
      faults = refl;
    }
