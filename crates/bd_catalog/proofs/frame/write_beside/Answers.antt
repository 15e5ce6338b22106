use Rattle.std.proofs.Common.{◌-◌, List, ℕ, subst, arith}
use Rattle.bd_model.specs.Sizes.{sizes_of}
use Rattle.bd_gate.specs.Commits.{FailsWithin, commit_calls}
use Rattle.bd_gate.specs.Standing.{KeepsOrCommits, LeavesCommitted}
use Rattle.bd_gate.proofs.Commits.{part_made}
use Rattle.bd_roll.specs.Shown.{catalogue_of_contents}
use Rattle.bd_roll.proofs.RuleLemmas.{bounded_of, spellable}
use Rattle.bd_roll.proofs.Lengths.{length-spelled}
use Rattle.bd_catalog.proofs.frame.write_beside.Goals as goal

pub put_frame-count-requires-clause-fits : goal.put_frame-count-requires-clause-fits
put_frame-count-requires-clause-fits g c =
    spellable (sizes_of c.args.shape.now) (bounded_of c.args.shape.now) (catalogue_of_contents c.args.catalogue.now) c.requires.rules

pub put_frame-count-requires-clause-room : goal.put_frame-count-requires-clause-room
put_frame-count-requires-clause-room g c =
    omega (arith, c.requires.buffer, length-spelled (sizes_of c.args.shape.now) (bounded_of c.args.shape.now) (catalogue_of_contents c.args.catalogue.now) c.requires.rules)

pub returns-in_err-commit_frame-clause-stops : goal.returns-in_err-commit_frame-clause-stops
returns-in_err-commit_frame-clause-stops g c = λ told.
    subst (λ (frame : List ℕ). KeepsOrCommits (sizes_of c.args.shape.now) (1 - c.args.half.now.number) frame (g.D.Disk.history c.args.disk.now) (g.D.Disk.history c.commit_frame.new.disk))
    c.put_frame-count.ensures.written (c.commit_frame.ensures.stops told)

pub returns-clause-stops : goal.returns-clause-stops
returns-clause-stops g c = λ told.
    subst (λ (frame : List ℕ). KeepsOrCommits (sizes_of c.args.shape.now) (1 - c.args.half.now.number) frame (g.D.Disk.history c.args.disk.now) (g.D.Disk.history c.commit_frame.new.disk))
    c.put_frame-count.ensures.written (c.commit_frame.ensures.stops told)

pub returns-clause-done : goal.returns-clause-done
returns-clause-done g c = λ told.
    subst (λ (frame : List ℕ). LeavesCommitted (sizes_of c.args.shape.now) (1 - c.args.half.now.number) frame (g.D.Disk.history c.args.disk.now) (g.D.Disk.history c.commit_frame.new.disk))
    c.put_frame-count.ensures.written (c.in_ok-commit_frame.ensures.done told)

pub returns-in_err-commit_frame-clause-calls : goal.returns-in_err-commit_frame-clause-calls
returns-in_err-commit_frame-clause-calls g c = λ told.
    part_made _ c.from_residual.result c.from_residual.ensures.1
    (subst (λ (frame : List ℕ). FailsWithin (commit_calls (sizes_of c.args.shape.now) (1 - c.args.half.now.number) c.args.half.now.other_open frame) (g.D.Disk.history c.args.disk.now) (g.D.Disk.history c.commit_frame.new.disk))
    c.put_frame-count.ensures.written (c.in_err-commit_frame.ensures.calls told))
