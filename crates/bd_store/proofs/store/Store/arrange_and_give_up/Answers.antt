use Rattle.std.proofs.Common.{◌≡◌, ◌≤◌, List, inl, sym, ap, subst, arith, length, Ok, Err, Result}
use Rattle.bd_files.specs.World.{World, with_disk}
use Rattle.bd_model.specs.Sizes.{disk_bytes}
use Rattle.bd_model.specs.declared.answer.Answer.{Answer}
use Rattle.bd_model.specs.declared.command.Command.TheVariants.{Expire}
use Rattle.bd_roll.specs.Catalogue.{VersionEntry, retained_in}
use Rattle.bd_store.specs.Attempts.{Meets, attempt, scene}
use Rattle.bd_store.specs.Shown.{Shown}
use Rattle.bd_store.specs.declared.fault.StoreFault.{StoreFault}
use Rattle.bd_store.proofs.CommandEnds.{first_two}
use Rattle.bd_store.proofs.FollowingLemmas.{followed, made_ready, ready_sound}
use Rattle.bd_store.proofs.LeanExpiry.{lean_follows}
use Rattle.bd_store.proofs.Unready.{refused}
use Rattle.bd_store.proofs.store.Store.arrange_and_give_up.Goals as goal
use Rattle.bd_store.proofs.store.Store.arrange_and_give_up.Goals.{in-Ok, in-Err}

pub give_up_oldest-requires : goal.give_up_oldest-requires
give_up_oldest-requires g c =
    let is = c.in-Ok.ensures.store in
    let versions : retained_in c.ready.new.self.found.catalogue ≡ retained_in c.args.self.now.found.catalogue = ap (λ (vs : List VersionEntry). length vs) is.settled.versions in
    record {
      fits = record { some = omega (arith, versions, first_two c.args.self.now.found c.requires.first); arranged = inl is.settled.phase };
      opened = record {
        sound = ready_sound c.in-Ok.ensures.worn;
        room = omega (arith, c.requires.opened.room, ap disk_bytes is.settled.sizes, c.ready.ensures.disk.bytes);
        agrees = λ told. (c.in-Ok.ensures.told told).agrees;
      };
    }

pub returns : goal.returns
returns g c =
    let P : World → Shown → g.row.D.Denot → Result Answer StoreFault → Type 0 =
    λ world store disk result. Meets g.D.Disk.tells (Unit {0}) (attempt Expire result (scene c.args.self.now (with_disk g.D.Disk world c.args.disk.now)) (scene store (with_disk g.D.Disk world disk))) in
    record {
      meets = λ world.
          elim c.match-ready.branch [
            | in-Ok w ↦
                subst (λ s. P world s c.match-ready.disk c.match-ready.result) (sym w.self-is)
                (subst (λ d. P world w.give_up_oldest.new.self d c.match-ready.result) (sym w.disk-is)
                (subst (P world w.give_up_oldest.new.self w.give_up_oldest.new.disk) (sym w.result-is)
                (followed {files = Unit {0}} {command = Expire} c.requires.first c.requires.opened.agrees
                (made_ready g.D.Disk world c.args.self.now c.ready.new.self c.args.disk.now c.ready.new.disk (Ok w.in-Ok.field-0) c.ready.ensures.disk w.in-Ok.ensures.cause w.in-Ok.ensures.worn c.ready.ensures.held w.in-Ok.ensures.store w.in-Ok.ensures.told)
                (lean_follows w.in-Ok.ensures.store.settled.phase
                (subst (λ (vs : List VersionEntry). 1 ≤ length vs) (sym w.in-Ok.ensures.store.settled.versions) (omega (arith, first_two c.args.self.now.found c.requires.first)))
                (w.give_up_oldest.ensures.meets world)))))
            | in-Err w ↦
                subst (λ s. P world s c.match-ready.disk c.match-ready.result) (sym w.self-is)
                (subst (λ d. P world c.ready.new.self d c.match-ready.result) (sym w.disk-is)
                (subst (P world c.ready.new.self c.ready.new.disk) (sym w.result-is)
                (subst (λ fault. P world c.ready.new.self c.ready.new.disk (Err fault)) (sym w.fault_of_reading.ensures)
                (refused {files = Unit {0}} {command = Expire} c.requires.first
                (made_ready g.D.Disk world c.args.self.now c.ready.new.self c.args.disk.now c.ready.new.disk (Err w.in-Err.fault) c.ready.ensures.disk w.in-Err.ensures.cause w.in-Err.ensures.worn c.ready.ensures.held w.in-Err.ensures.store w.in-Err.ensures.told)))))
          ];
    }
