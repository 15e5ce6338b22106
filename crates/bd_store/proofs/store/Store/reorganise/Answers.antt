use Rattle.std.proofs.Common.{◌≡◌, ◌∙◌, true, sym, ap, subst, Ok, Err}
use Rattle.bd_files.specs.World.{with_disk}
use Rattle.bd_model.specs.declared.command.Command.TheVariants.{Reorganise}
use Rattle.bd_model.specs.declared.layout.Phase.TheVariants.{Settled}
use Rattle.bd_store.specs.Attempts.{attempt, scene, Meets}
use Rattle.bd_store.specs.Shown.{Shown}
use Rattle.bd_store.specs.Touches.{is_waiting, waits}
use Rattle.bd_store.specs.declared.fault.StoreFault.{StoreFault}
use Rattle.bd_store.proofs.FollowingLemmas.{followed, made_ready, ready_sound}
use Rattle.bd_store.proofs.ReorganiseStep.{arranged_follows, meets_arranged}
use Rattle.bd_store.proofs.Unready.{refused}
use Rattle.bd_store.proofs.store.Store.reorganise.Goals as goal

pub returns-in-Settled : goal.returns-in-Settled
returns-in-Settled g c =
    let settled : c.args.self.now.found.catalogue.phase ≡ Settled = ap (λ (s : Shown). s.found.catalogue.phase) (sym c.self.view_is) ∙ sym c.phase.ensures ∙ c.in-Settled.is in
    record {
      meets = λ w.
          meets_arranged (scene c.args.self.now (with_disk g.D.Disk w c.args.disk.now)) c.figures-owned.result c.requires.opened.sound c.requires.opened.agrees settled c.figures-owned.ensures.figures c.figures-owned.ensures.state;
    }

pub returns-in-Ok : goal.returns-in-Ok
returns-in-Ok g c =
    let waiting : is_waiting c.args.self.now.found ≡ true = ap (λ (s : Shown). waits s.found.catalogue.phase) (sym c.self.view_is) ∙ ap waits (sym c.phase.ensures ∙ c.in-Waiting.is) in
    record {
      meets = λ w.
          followed waiting c.requires.opened.agrees
          (made_ready g.D.Disk w c.args.self.now c.ready.new.self c.args.disk.now c.ready.new.disk (Ok c.in-Ok._neighbour) c.ready.ensures.disk c.in-Ok.ensures.cause c.in-Ok.ensures.worn c.ready.ensures.held c.in-Ok.ensures.store c.in-Ok.ensures.told)
          (arranged_follows (scene c.ready.new.self (with_disk g.D.Disk w c.ready.new.disk)) c.figures-owned-in-Ok.result (ready_sound c.in-Ok.ensures.worn) (λ told. (c.in-Ok.ensures.told told).agrees) c.in-Ok.ensures.store.settled.phase
          c.figures-owned-in-Ok.ensures.figures c.figures-owned-in-Ok.ensures.state);
    }

pub returns-in-Err : goal.returns-in-Err
returns-in-Err g c =
    let waiting : is_waiting c.args.self.now.found ≡ true = ap (λ (s : Shown). waits s.found.catalogue.phase) (sym c.self.view_is) ∙ ap waits (sym c.phase.ensures ∙ c.in-Waiting.is) in
    record {
      meets = λ w.
          subst (λ (fault : StoreFault). Meets g.D.Disk.tells (Unit {0}) (attempt Reorganise (Err fault) (scene c.args.self.now (with_disk g.D.Disk w c.args.disk.now)) (scene c.ready.new.self (with_disk g.D.Disk w c.ready.new.disk))))
          (sym c.fault_of_reading.ensures)
          (refused waiting
          (made_ready g.D.Disk w c.args.self.now c.ready.new.self c.args.disk.now c.ready.new.disk (Err c.in-Err.fault) c.ready.ensures.disk c.in-Err.ensures.cause c.in-Err.ensures.worn c.ready.ensures.held c.in-Err.ensures.store c.in-Err.ensures.told));
    }
