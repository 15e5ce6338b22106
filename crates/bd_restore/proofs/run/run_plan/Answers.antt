use Rattle.std.proofs.Common.{◌≡◌, ℕ, ◌<◌, ◌∙◌, true, false, length, replicate, ap, sym, subst, arith}
use Rattle.std.specs.FinMap as map
use Rattle.std.proofs.lemmas.List.{length-replicate}
use Rattle.bd_disk.specs.Calls.{Rose}
use Rattle.bd_disk.specs.History.{contents}
use Rattle.bd_disk.proofs.RunLemmas.{no_reads}
use Rattle.bd_model.specs.declared.damage.Damage.TheVariants.{Missing}
use Rattle.bd_catalog.specs.Rows.{walk}
use Rattle.bd_files.proofs.FileLemmas.{begins_only, finished, finishes_only}
use Rattle.bd_recipe.specs.Reading.{total}
use Rattle.bd_restore.specs.Met.{MetOn}
use Rattle.bd_restore.specs.Plan.{Planned}
use Rattle.bd_restore.specs.Restored.{HasGivenBack, IsMetBy, ReadsWalk}
use Rattle.bd_restore.specs.Target.{flag_at}
use Rattle.bd_restore.proofs.FaultPassedOn.{damaged_by, passed_counts}
use Rattle.bd_restore.proofs.WalkEnd.{gives_back, met_by, missing_by, reads_walk}
use Rattle.bd_restore.proofs.FirstAndLast.{err_of, ok_of, target_begun}
use Rattle.bd_restore.proofs.Frames.{same_others, target_both, target_once}
use Rattle.bd_restore.proofs.run.run_plan.Goals as goal

pub returns-then-is_err-clause-disk : goal.returns-then-is_err-clause-disk
returns-then-is_err-clause-disk g c = no_reads

-- ---- the target

pub walk-requires-clause-ready : goal.walk-requires-clause-ready
walk-requires-clause-ready g c =
    let parts = c.into_parts-wanted.ensures in
    let wanted = c.into_parts-wanted.result.0 in
    record {
      flags = ap length parts.fresh.flags ∙ length-replicate (length c.args.plan.entries) false ∙ ap length (sym parts.entries);
      buffer = parts.buffer ∙ c.requires.plan.buffer;
      there = λ tells.
          target_begun wanted.tables (g.F.Files.files c.args.files.now) (g.F.Files.files c.begin.new.self) c.args.name.now wanted.length (parts.fresh.sum ∙ ap total (sym parts.entries))
          (ok_of c.begin.result _ (sym c.is_err.ensures.value ∙ c.if-is_err.false) c.begin.ensures.ok tells);
    }

pub returns-then-is_err-clause-files : goal.returns-then-is_err-clause-files
returns-then-is_err-clause-files g c = target_once c.begin.ensures.sources c.begin.ensures.strays c.begin.ensures.others (λ told. begins_only (c.begin.ensures.unfinished told))

pub returns-in_err-walk-clause-files : goal.returns-in_err-walk-clause-files
returns-in_err-walk-clause-files g c = target_both (target_once c.begin.ensures.sources c.begin.ensures.strays c.begin.ensures.others (λ told. begins_only (c.begin.ensures.unfinished told))) c.walk.ensures.files

pub returns-in-Some-clause-files : goal.returns-in-Some-clause-files
returns-in-Some-clause-files g c = target_both (target_once c.begin.ensures.sources c.begin.ensures.strays c.begin.ensures.others (λ told. begins_only (c.begin.ensures.unfinished told))) c.walk.ensures.files

pub returns-then-is_err-2-clause-files : goal.returns-then-is_err-2-clause-files
returns-then-is_err-2-clause-files g c =
    target_both (target_both (target_once c.begin.ensures.sources c.begin.ensures.strays c.begin.ensures.others (λ told. begins_only (c.begin.ensures.unfinished told))) c.walk.ensures.files)
    (target_once c.finish.ensures.sources c.finish.ensures.strays (λ tells. record { others = λ other differ. ap (λ m. map.get m other) (c.finish.ensures.same tells) }) (λ told. finishes_only (c.finish.ensures.unfinished told)))

pub returns-clause-files : goal.returns-clause-files
returns-clause-files g c =
    target_both (target_both (target_once c.begin.ensures.sources c.begin.ensures.strays c.begin.ensures.others (λ told. begins_only (c.begin.ensures.unfinished told))) c.walk.ensures.files)
    (target_once c.finish.ensures.sources c.finish.ensures.strays (λ tells. record { others = λ other differ. ap (λ m. map.get m other) (c.finish.ensures.same tells) }) (λ told. finishes_only (c.finish.ensures.unfinished told)))

-- ---- the counts

pub returns-in_err-walk-clause-cause : goal.returns-in_err-walk-clause-cause
returns-in_err-walk-clause-cause g c =
    passed_counts (Unit {0}) _ _ _ _ _ c.in_err-walk.field-0.0 c.from_residual.result c.from_residual.ensures.1 (ok_of c.begin.result _ (sym c.is_err.ensures.value ∙ c.if-is_err.false) c.begin.ensures.cause.kept) c.in_err-walk.ensures.cause

pub returns-in-Some-clause-cause : goal.returns-in-Some-clause-cause
returns-in-Some-clause-cause g c =
    let stays : g.F.Files.target_faults c.begin.new.self ≡ g.F.Files.target_faults c.args.files.now = ok_of c.begin.result _ (sym c.is_err.ensures.value ∙ c.if-is_err.false) c.begin.ensures.cause.kept in
    record {
      disk = record { later = c.in_ok-walk.ensures.cause.disk.later; cause = c.in_ok-walk.ensures.cause.disk.cause };
      target = record { later = omega (arith, c.in_ok-walk.ensures.cause.target.cause, stays); cause = c.in_ok-walk.ensures.cause.target.cause ∙ stays };
      memory = λ e. cc;
    }

pub returns-then-is_err-2-clause-cause : goal.returns-then-is_err-2-clause-cause
returns-then-is_err-2-clause-cause g c =
    let stays : g.F.Files.target_faults c.begin.new.self ≡ g.F.Files.target_faults c.args.files.now = ok_of c.begin.result _ (sym c.is_err.ensures.value ∙ c.if-is_err.false) c.begin.ensures.cause.kept in
    record {
      disk = record { later = c.in_ok-walk.ensures.cause.disk.later; cause = c.in_ok-walk.ensures.cause.disk.cause };
      target = record { later = omega (arith, c.in_ok-walk.ensures.cause.target.cause, stays, c.finish.ensures.cause.later); cause = subst (λ n. Rose n (g.F.Files.target_faults c.finish.new.self)) (c.in_ok-walk.ensures.cause.target.cause ∙ stays) (err_of c.finish.result _ (sym c.is_err-2.ensures.value ∙ c.if-is_err-2.true) c.finish.ensures.cause.failed) };
      memory = λ e. cc;
    }

pub returns-clause-cause : goal.returns-clause-cause
returns-clause-cause g c =
    let stays : g.F.Files.target_faults c.begin.new.self ≡ g.F.Files.target_faults c.args.files.now = ok_of c.begin.result _ (sym c.is_err.ensures.value ∙ c.if-is_err.false) c.begin.ensures.cause.kept in
    record {
      disk = record { later = c.in_ok-walk.ensures.cause.disk.later; cause = c.in_ok-walk.ensures.cause.disk.cause };
      target = record { later = omega (arith, c.in_ok-walk.ensures.cause.target.cause, stays, c.finish.ensures.cause.later); cause = ok_of c.finish.result _ (sym c.is_err-2.ensures.value ∙ c.if-is_err-2.false) c.finish.ensures.cause.kept ∙ c.in_ok-walk.ensures.cause.target.cause ∙ stays };
      memory = λ e. cc;
    }

-- ---- damages

pub returns-in_err-walk-clause-damage : goal.returns-in_err-walk-clause-damage
returns-in_err-walk-clause-damage g c =
    let found = c.args.catalog.now.found in
    let parts = c.into_parts-wanted.ensures in
    let wanted = c.into_parts-wanted.result.0 in
    let progress = c.into_parts-wanted.result.1 in
    let plan : Planned = record { version = wanted.version; entries = wanted.tables; pieces = wanted.pieces.items; room = length progress.buffer.items } in
    let same : plan ≡ c.args.plan = λ i. record { version = parts.version i; entries = parts.entries i; pieces = parts.pieces i; room = parts.buffer i } in
    let fresh : progress.filled.items ≡ replicate (length plan.entries) false = parts.fresh.flags ∙ ap (λ es. replicate (length es) false) (sym parts.entries) in
    let old = g.D.Disk.history c.args.disk.now in
    let new = g.D.Disk.history c.walk.new.disk in
    damaged_by (Unit {0}) (λ damage. g.D.Disk.tells → MetOn (record { sizes = found.sizes; version = plan.version; entries = plan.entries }) (contents old) progress.filled.items (walk found.catalogue plan.version) damage old new)
    (λ damage. g.D.Disk.tells → IsMetBy found c.args.plan damage old new) c.in_err-walk.field-0.0 c.from_residual.result c.from_residual.ensures.1
    (λ damage met told. subst (λ p. IsMetBy found p damage old new) same (met_by found plan progress.filled.items old new fresh damage (met told)))
    c.in_err-walk.ensures.damage

pub returns-in-Some-clause-damage : goal.returns-in-Some-clause-damage
returns-in-Some-clause-damage g c = λ told.
    let found = c.args.catalog.now.found in
    let parts = c.into_parts-wanted.ensures in
    let wanted = c.into_parts-wanted.result.0 in
    let progress = c.into_parts-wanted.result.1 in
    let plan : Planned = record { version = wanted.version; entries = wanted.tables; pieces = wanted.pieces.items; room = length progress.buffer.items } in
    let same : plan ≡ c.args.plan = λ i. record { version = parts.version i; entries = parts.entries i; pieces = parts.pieces i; room = parts.buffer i } in
    let fresh : progress.filled.items ≡ replicate (length plan.entries) false = parts.fresh.flags ∙ ap (λ es. replicate (length es) false) (sym parts.entries) in
    let old = g.D.Disk.history c.args.disk.now in
    let new = g.D.Disk.history c.walk.new.disk in
    let filled : c.deref.result.now ≡ c.walk.new.progress.filled.items = c.deref.ensures.value in
    let went = c.in_ok-walk.ensures.went in
    let k = c.in-Some.index in
    subst (λ p. IsMetBy found p (Missing wanted.version k c.entry.result.mark) old new) same
    (missing_by found plan progress.filled.items old new fresh c.walk.new.progress.filled.items (went.went.walk told) (went.good told) k
    (subst (λ l. k < length l) filled c.in-Some.ensures.within) (subst (λ l. flag_at l k ≡ false) filled c.in-Some.ensures.some) c.entry.result.mark c.entry.ensures.mark)

-- ---- what was read and given

pub returns-clause-read : goal.returns-clause-read
returns-clause-read g c = λ told.
    let found = c.args.catalog.now.found in
    let parts = c.into_parts-wanted.ensures in
    let wanted = c.into_parts-wanted.result.0 in
    let progress = c.into_parts-wanted.result.1 in
    let plan : Planned = record { version = wanted.version; entries = wanted.tables; pieces = wanted.pieces.items; room = length progress.buffer.items } in
    let same : plan ≡ c.args.plan = λ i. record { version = parts.version i; entries = parts.entries i; pieces = parts.pieces i; room = parts.buffer i } in
    let fresh : progress.filled.items ≡ replicate (length plan.entries) false = parts.fresh.flags ∙ ap (λ es. replicate (length es) false) (sym parts.entries) in
    let old = g.D.Disk.history c.args.disk.now in
    let new = g.D.Disk.history c.walk.new.disk in
    let went = c.in_ok-walk.ensures.went in
    subst (λ p. ReadsWalk found p old new) same (reads_walk found plan progress.filled.items old new fresh c.walk.new.progress.filled.items (went.went.walk told) (went.good told))

pub returns-clause-file : goal.returns-clause-file
returns-clause-file g c = λ told tells.
    let found = c.args.catalog.now.found in
    let parts = c.into_parts-wanted.ensures in
    let wanted = c.into_parts-wanted.result.0 in
    let progress = c.into_parts-wanted.result.1 in
    let plan : Planned = record { version = wanted.version; entries = wanted.tables; pieces = wanted.pieces.items; room = length progress.buffer.items } in
    let same : plan ≡ c.args.plan = λ i. record { version = parts.version i; entries = parts.entries i; pieces = parts.pieces i; room = parts.buffer i } in
    let fresh : progress.filled.items ≡ replicate (length plan.entries) false = parts.fresh.flags ∙ ap (λ es. replicate (length es) false) (sym parts.entries) in
    let old = g.D.Disk.history c.args.disk.now in
    let new = g.D.Disk.history c.walk.new.disk in
    let went = c.in_ok-walk.ensures.went in
    let name = c.args.name.now in
    let before = g.F.Files.files c.args.files.now in
    let begun = g.F.Files.files c.begin.new.self in
    let now = g.F.Files.files c.walk.new.files in
    let ended = g.F.Files.files c.finish.new.self in
    subst (λ p. HasGivenBack found p (contents old) name before ended) same
    (gives_back found plan progress.filled.items old new fresh c.walk.new.progress.filled.items (went.went.walk told) (went.good told) name before begun now ended
    (went.went.gives told tells) (went.went.ready.there tells)
    (subst (λ l. (k : ℕ) → k < length l → flag_at l k ≡ true) c.deref.ensures.value c.in_default.ensures.none)
    (same_others (target_both (target_once c.begin.ensures.sources c.begin.ensures.strays c.begin.ensures.others (λ told. begins_only (c.begin.ensures.unfinished told))) c.walk.ensures.files) tells)
    (c.finish.ensures.same tells))

pub returns-clause-finished : goal.returns-clause-finished
returns-clause-finished g c = ok_of c.finish.result _ (sym c.is_err-2.ensures.value ∙ c.if-is_err-2.false) (finished _ _ _ _ c.finish.ensures.unfinished)
