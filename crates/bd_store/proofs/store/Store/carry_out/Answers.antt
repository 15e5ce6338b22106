use Rattle.std.proofs.Common.{refl, Ok}
use Rattle.bd_files.specs.World.{with_disk, with_files}
use Rattle.bd_model.specs.declared.answer.Answer.{Answer}
use Rattle.bd_model.specs.declared.command.Command.TheVariants.{List as Listing}
use Rattle.bd_store.specs.Attempts.{attempt, scene, KeepsVersions, RestsBy, SettlesBy, TellsFigures}
use Rattle.bd_store.specs.Shown.{Shown}
use Rattle.bd_store.specs.Writes.{StepsTo}
use Rattle.bd_store.proofs.Listed.{as_list, listed_step, listed_stops}
use Rattle.bd_store.proofs.NothingTouched.{meets_as, meets_told, meets_untouched, memory_step, same_versions}
use Rattle.bd_store.proofs.Quiet.{safe_untouched}
use Rattle.bd_store.proofs.store.Store.carry_out.Goals as goal

pub returns-in-Ok : goal.returns-in-Ok
returns-in-Ok g c = record {
  meets = λ w.
      let here = scene c.args.self.now (with_files g.F.Files (with_disk g.D.Disk w c.args.disk.now) c.args.files.now) in
      let answer : Answer = c.in-Ok.answer in
      let store : Shown = c.args.self.now in
      meets_as c.in-List.is
      (meets_untouched Listing (Ok answer) here c.requires.opened.sound c.requires.opened.agrees
      (record {
        cause = refl;
        has_disk = tt;
        answer = c.in-Ok.ensures.lines;
        versions = as_list (λ a. KeepsVersions store store (Ok a)) answer c.in-Ok.ensures.lines (λ l. same_versions store);
        settles = as_list (λ a. SettlesBy store (Ok a)) answer c.in-Ok.ensures.lines (λ l. tt);
        figures = as_list (λ a. TellsFigures store (Ok a)) answer c.in-Ok.ensures.lines (λ l. tt);
        reads = refl;
        damage = tt;
        recipe = tt;
        rests = as_list (λ a. RestsBy (attempt Listing (Ok a) here here) (Ok a)) answer c.in-Ok.ensures.lines (λ l rested. rested);
        step = as_list (λ a. StepsTo store.found.catalogue store.found.catalogue (Ok a)) answer c.in-Ok.ensures.lines (λ l. refl);
        arranging = λ no. absurd (cc no);
        finished = tt;
        transfers = tt;
      })
      (λ told files_tell. listed_step _ _ _ _ _ (c.requires.opened.agrees told) c.in-Ok.ensures.lines)
      (λ told files_tell. listed_stops _ _ _ _));
}

pub returns-in-Err : goal.returns-in-Err
returns-in-Err g c = record {
  meets = λ w.
      let here = scene c.args.self.now (with_files g.F.Files (with_disk g.D.Disk w c.args.disk.now) c.args.files.now) in
      meets_as c.in-List.is
      (meets_untouched _ _ _ c.requires.opened.sound c.requires.opened.agrees
      (record { cause = refl; has_disk = tt; answer = refl; versions = same_versions c.args.self.now; settles = tt; figures = tt; reads = refl; damage = tt; recipe = tt; rests = tt; step = refl; arranging = λ no. absurd (cc no); finished = tt; transfers = tt })
      (λ told files_tell. memory_step _ _ _ _)
      (λ told files_tell. safe_untouched _ _ _ _ _));
}

pub returns-in-Expire : goal.returns-in-Expire
returns-in-Expire g c = record {
  meets = λ w. meets_as c.in-Expire.is (meets_told g.F.Files.tells (c.expire.ensures.meets (with_files g.F.Files w c.args.files.now)));
}

pub returns-in-Reorganise : goal.returns-in-Reorganise
returns-in-Reorganise g c = record {
  meets = λ w. meets_as c.in-Reorganise.is (meets_told g.F.Files.tells (c.reorganise.ensures.meets (with_files g.F.Files w c.args.files.now)));
}

pub returns-in-Backup : goal.returns-in-Backup
returns-in-Backup g c = record {
  meets = λ w. meets_as c.in-Backup.is (c.backup.ensures.meets w);
}

pub returns-in-Restore : goal.returns-in-Restore
returns-in-Restore g c = record {
  meets = λ w. meets_as c.in-Restore.is (c.restore.ensures.meets w);
}
