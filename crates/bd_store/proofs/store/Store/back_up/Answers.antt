use Rattle.std.proofs.Common.{◌≡◌, false, sym, subst, Ok, Err}
use Rattle.bd_files.specs.World.{with_disk, with_files}
use Rattle.bd_model.specs.declared.command.Command.TheVariants.{Backup}
use Rattle.bd_store.specs.Attempts.{attempt, scene, Meets}
use Rattle.bd_store.specs.Touches.{is_full}
use Rattle.bd_store.specs.declared.fault.StoreFault.{StoreFault}
use Rattle.bd_store.proofs.FollowingLemmas.{followed, made_ready}
use Rattle.bd_store.proofs.RefusalStep.{backup_goes_on}
use Rattle.bd_store.proofs.Unready.{refused}
use Rattle.bd_store.proofs.store.Store.back_up.Goals as goal

pub returns-in-Ok : goal.returns-in-Ok
returns-in-Ok g c =
    let goes : is_full c.args.self.now.found ≡ false = backup_goes_on c.args.self.now.found c.requires.number c.requires.limit in
    record {
      meets = λ w. followed {after = scene c.take_in.new.self (with_files g.F.Files (with_disk g.D.Disk w c.take_in.new.disk) c.take_in.new.files)} goes c.requires.opened.agrees
          (made_ready g.D.Disk (with_files g.F.Files w c.args.files.now) c.args.self.now c.ready.new.self c.args.disk.now c.ready.new.disk (Ok c.in-Ok.neighbour) c.ready.ensures.disk c.in-Ok.ensures.cause c.in-Ok.ensures.worn c.ready.ensures.held c.in-Ok.ensures.store
          c.in-Ok.ensures.told)
          (c.take_in.ensures.follows w);
    }

pub returns-in-Err : goal.returns-in-Err
returns-in-Err g c =
    let goes : is_full c.args.self.now.found ≡ false = backup_goes_on c.args.self.now.found c.requires.number c.requires.limit in
    record {
      meets = λ w. subst (λ (fault : StoreFault). Meets g.D.Disk.tells g.F.Files.tells (attempt (Backup c.args.name.now) (Err fault) (scene c.args.self.now (with_files g.F.Files (with_disk g.D.Disk w c.args.disk.now) c.args.files.now)) (scene c.ready.new.self (with_files g.F.Files (with_disk g.D.Disk w c.ready.new.disk) c.args.files.now))))
          (sym c.fault_of_reading.ensures)
          (refused goes
          (made_ready g.D.Disk (with_files g.F.Files w c.args.files.now) c.args.self.now c.ready.new.self c.args.disk.now c.ready.new.disk (Err c.in-Err.fault) c.ready.ensures.disk c.in-Err.ensures.cause c.in-Err.ensures.worn c.ready.ensures.held c.in-Err.ensures.store
          c.in-Err.ensures.told));
    }
