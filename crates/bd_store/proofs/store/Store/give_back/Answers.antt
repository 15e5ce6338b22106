use Rattle.std.proofs.Common.{◌≡◌, ◌↔◌, ◌≤◌, Bool, true, false, sym, ap, subst, Result, Ok, Err}
use Rattle.bd_files.specs.World.{with_disk, with_files}
use Rattle.bd_model.specs.declared.answer.Answer.{Answer}
use Rattle.bd_model.specs.declared.answer.Answer.TheVariants.{Restored}
use Rattle.bd_model.specs.declared.command.Command.TheVariants.{Restore}
use Rattle.bd_space.specs.Allotment.{held_count}
use Rattle.bd_catalog.specs.Agreement.{Agrees}
use Rattle.bd_roll.specs.Catalogue.{oldest_in}
use Rattle.bd_catalog.specs.Opening.{Found}
use Rattle.bd_store.specs.Attempts.{attempt, scene, Meets}
use Rattle.bd_store.specs.Naming.{fault_of_reading, fault_of_restore}
use Rattle.bd_store.specs.Shown.{Shown}
use Rattle.bd_store.specs.declared.fault.StoreFault.{StoreFault}
use Rattle.bd_store.specs.declared.fault.StoreFault.TheVariants.{DiskFault}
use Rattle.bd_store.proofs.NothingTouched.{shown_is}
use Rattle.bd_store.proofs.RestoreMeets.{meets_unread, meets_restored, meets_stopped}
use Rattle.bd_store.proofs.store.Store.give_back.Goals as goal

pub returns-in-Err : goal.returns-in-Err
returns-in-Err g c = record {
  meets = λ w.
      let found : Found = c.self.inside.catalog.found in
      let held = held_count c.self.inside.space in
      let same : found ≡ c.args.self.now.found = ap (λ (s : Shown). s.found) c.self.view_is in
      let shown = shown_is found held c.args.self.now same (ap (λ (s : Shown). s.held) c.self.view_is) c.requires.opened.sound in
      let worn : Bool = c.is_disk_fault-self-inside.result in
      let DiskFailed : StoreFault → Type 0 = λ fault. (worn ≡ true) ↔ (◌≡◌ {A = Result Answer StoreFault} (Err fault) (Err DiskFault)) in
      let MeetsFrom : Shown → StoreFault → Type 0 =
      λ before fault. Meets g.D.Disk.tells g.F.Files.tells (attempt (Restore c.args.version c.args.name.now) (Err fault)
      (scene before (with_files g.F.Files (with_disk g.D.Disk w c.args.disk.now) c.args.files.now)) (scene (record { found = found; held = held; worn = worn }) (with_files g.F.Files (with_disk g.D.Disk w c.plan_for.new.disk) c.args.files.now))) in
      let is : MeetsFrom (record { found = found; held = held; worn = false }) (fault_of_reading c.in-Err.fault) =
      meets_unread g.D.Disk g.F.Files w found held c.args.version c.args.name.now c.args.disk.now c.args.files.now
      (λ told. subst (λ (f : Found). Agrees f (g.D.Disk.history c.args.disk.now)) (sym same) (c.requires.opened.agrees told))
      (subst (λ (f : Found). oldest_in f.catalogue ≤ c.args.version) (sym same) c.requires.oldest) (subst (λ (f : Found). c.args.version ≤ f.catalogue.newest) (sym same) c.requires.newest)
      c.plan_for.new.disk c.in-Err.fault worn
      (record { disk = c.plan_for.ensures.disk; cause = c.in-Err.ensures.cause; entries = c.in-Err.ensures.entries; seen = c.in-Err.ensures.seen })
      (subst DiskFailed c.fault_of_reading.ensures c.is_disk_fault-self-inside.ensures) in
      subst (λ (before : Shown). MeetsFrom before c.fault_of_reading.result) shown (subst (MeetsFrom (record { found = found; held = held; worn = false })) (sym c.fault_of_reading.ensures) is);
}

pub returns-in-Ok-run_plan : goal.returns-in-Ok-run_plan
returns-in-Ok-run_plan g c =
    let found : Found = c.self.inside.catalog.found in
    let held = held_count c.self.inside.space in
    let same : found ≡ c.args.self.now.found = ap (λ (s : Shown). s.found) c.self.view_is in
    let shown = shown_is found held c.args.self.now same (ap (λ (s : Shown). s.held) c.self.view_is) c.requires.opened.sound in
    record {
      meets = λ w. subst (λ (s : Shown). Meets g.D.Disk.tells g.F.Files.tells (attempt (Restore c.args.version c.args.name.now) (Ok (Restored c.args.version c.in-Ok-run_plan.bytes))
          (scene s (with_files g.F.Files (with_disk g.D.Disk w c.args.disk.now) c.args.files.now)) (scene s (with_files g.F.Files (with_disk g.D.Disk w c.run_plan.new.disk) c.run_plan.new.files)))) shown
          (meets_restored g.D.Disk g.F.Files w found held c.args.version c.args.name.now c.args.disk.now c.args.files.now
          (λ told. subst (λ (f : Found). Agrees f (g.D.Disk.history c.args.disk.now)) (sym same) (c.requires.opened.agrees told))
          (subst (λ (f : Found). oldest_in f.catalogue ≤ c.args.version) (sym same) c.requires.oldest) (subst (λ (f : Found). c.args.version ≤ f.catalogue.newest) (sym same) c.requires.newest)
          c.in-Ok.plan c.plan_for.new.disk
          (record { disk = c.plan_for.ensures.disk; faults = c.in-Ok.ensures.cause.cause; made = c.in-Ok.ensures.plan; recipe = c.in-Ok.ensures.recipe; entries = c.in-Ok.ensures.entries; places = c.in-Ok.ensures.places })
          c.run_plan.new.disk c.run_plan.new.files c.in-Ok-run_plan.bytes
          (record { disk = c.run_plan.ensures.disk; files = c.run_plan.ensures.files; cause = c.in-Ok-run_plan.ensures.cause })
          (record { length = c.in-Ok-run_plan.ensures.length; file = c.in-Ok-run_plan.ensures.file; finished = c.in-Ok-run_plan.ensures.finished; walked = c.in-Ok-run_plan.ensures.read }));
    }

pub returns-in-Err-run_plan : goal.returns-in-Err-run_plan
returns-in-Err-run_plan g c = record {
  meets = λ w.
      let found : Found = c.self.inside.catalog.found in
      let held = held_count c.self.inside.space in
      let same : found ≡ c.args.self.now.found = ap (λ (s : Shown). s.found) c.self.view_is in
      let shown = shown_is found held c.args.self.now same (ap (λ (s : Shown). s.held) c.self.view_is) c.requires.opened.sound in
      let worn : Bool = c.is_disk_fault-self-inside-in-Err-run_plan.result in
      let DiskFailed : StoreFault → Type 0 = λ fault. (worn ≡ true) ↔ (◌≡◌ {A = Result Answer StoreFault} (Err fault) (Err DiskFault)) in
      let MeetsFrom : Shown → StoreFault → Type 0 =
      λ before fault. Meets g.D.Disk.tells g.F.Files.tells (attempt (Restore c.args.version c.args.name.now) (Err fault)
      (scene before (with_files g.F.Files (with_disk g.D.Disk w c.args.disk.now) c.args.files.now)) (scene (record { found = found; held = held; worn = worn }) (with_files g.F.Files (with_disk g.D.Disk w c.run_plan.new.disk) c.run_plan.new.files))) in
      let is : MeetsFrom (record { found = found; held = held; worn = false }) (fault_of_restore c.in-Err-run_plan.fault) =
      meets_stopped g.D.Disk g.F.Files w found held c.args.version c.args.name.now c.args.disk.now c.args.files.now
      (λ told. subst (λ (f : Found). Agrees f (g.D.Disk.history c.args.disk.now)) (sym same) (c.requires.opened.agrees told))
      (subst (λ (f : Found). oldest_in f.catalogue ≤ c.args.version) (sym same) c.requires.oldest) (subst (λ (f : Found). c.args.version ≤ f.catalogue.newest) (sym same) c.requires.newest)
      c.in-Ok.plan c.plan_for.new.disk
      (record { disk = c.plan_for.ensures.disk; faults = c.in-Ok.ensures.cause.cause; made = c.in-Ok.ensures.plan; recipe = c.in-Ok.ensures.recipe; entries = c.in-Ok.ensures.entries; places = c.in-Ok.ensures.places })
      c.run_plan.new.disk c.run_plan.new.files c.in-Err-run_plan.fault worn
      (record { disk = c.run_plan.ensures.disk; files = c.run_plan.ensures.files; cause = c.in-Err-run_plan.ensures.cause })
      c.in-Err-run_plan.ensures.damage
      (subst DiskFailed c.fault_of_restore.ensures c.is_disk_fault-self-inside-in-Err-run_plan.ensures) in
      subst (λ (before : Shown). MeetsFrom before c.fault_of_restore.result) shown (subst (MeetsFrom (record { found = found; held = held; worn = false })) (sym c.fault_of_restore.ensures) is);
}
