use Rattle.std.proofs.Common.{◌∙◌, ap, inl, map, refl, string_bytes, subst, sym}
use Rattle.bd_files.specs.World.{world}
use Rattle.mfdedup.specs.Noted.{NothingNoted}
use Rattle.bd_words.specs.Words.{reading}
use Rattle.mfdedup.specs.Works.{Did}
use Rattle.mfdedup.specs.declared.progress.Progress.{Progress}
use Rattle.mfdedup.proofs.UnbuiltWords.{ends_early, shows_none}
use Rattle.mfdedup.proofs.run.run.Goals as goal

pub returns-in-Ok-clause-did : goal.returns-in-Ok-clause-did
returns-in-Ok-clause-did g c =
    let before = world g.D.Disk g.F.Files g.O.Sink c.args.disk.now c.args.files.now c.args.out.now in
    let done = world g.D.Disk g.F.Files g.O.Sink c.act-progress.new.disk c.act-progress.new.files c.act-progress.new.out in
    let now = world g.D.Disk g.F.Files g.O.Sink c.act-progress.new.disk c.act-progress.new.files c.report.new.out in
    subst (λ (p : Progress). Did g.D.Disk.tells g.F.Files.tells g.O.Sink.tells (reading (map string_bytes c.args.words.now)) p before now) (sym c.report.ensures.progress)
    (record { done = done; works = inl (c.act-progress.ensures.works (reading (map string_bytes c.args.words.now)) c.in-Ok.ensures.asked); tells = c.report.ensures.tells done })

pub returns-in-Err-clause-did : goal.returns-in-Err-clause-did
returns-in-Err-clause-did g c =
    let before = world g.D.Disk g.F.Files g.O.Sink c.args.disk.now c.args.files.now c.args.out.now in
    let now = world g.D.Disk g.F.Files g.O.Sink c.args.disk.now c.args.files.now c.report-in-Err.new.out in
    subst (λ (p : Progress). Did g.D.Disk.tells g.F.Files.tells g.O.Sink.tells (reading (map string_bytes c.args.words.now)) p before now) (sym c.report-in-Err.ensures.progress)
    (record {
      done = before;
      works = ends_early (reading (map string_bytes c.args.words.now)) c.in-Err.fault c.none.result before (c.none.ensures.end ∙ c.end_of_words.ensures) (record { commands = c.none.ensures.commands; answers = c.none.ensures.answers; clocks = c.none.ensures.clocks }) c.in-Err.ensures.refused;
      tells = c.report-in-Err.ensures.tells before;
    })

pub returns-in-Err-clause-request : goal.returns-in-Err-clause-request
returns-in-Err-clause-request g c =
    shows_none _ c.in-Err.fault c.report-in-Err.result.request _ c.report-in-Err.ensures.request (ap (λ (p : Progress). p.end) c.report-in-Err.ensures.progress ∙ (c.none.ensures.end ∙ c.end_of_words.ensures))
    (subst NothingNoted (sym c.report-in-Err.ensures.progress) (record { commands = c.none.ensures.commands; answers = c.none.ensures.answers; clocks = c.none.ensures.clocks })) (refl, refl) c.in-Err.ensures.refused
