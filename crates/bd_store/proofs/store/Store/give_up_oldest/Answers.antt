use Rattle.std.proofs.Common.{◌≡◌, ◌∙◌, ◌-◌, ℕ, false, sym, ap, subst, arith, Result}
use Rattle.bd_files.specs.World.{World, with_disk}
use Rattle.bd_model.specs.declared.answer.Answer.{Answer}
use Rattle.bd_model.specs.declared.command.Command.TheVariants.{Expire}
use Rattle.bd_space.specs.Allotment.{held_count}
use Rattle.bd_catalog.specs.Agreement.{Agrees}
use Rattle.bd_roll.specs.Catalogue.{retained_in}
use Rattle.bd_catalog.specs.Opening.{Found}
use Rattle.bd_roll.specs.Splitting.{FitsExpire}
use Rattle.bd_store.specs.Attempts.{Meets, attempt, scene}
use Rattle.bd_store.specs.Shown.{Shown}
use Rattle.bd_store.specs.declared.fault.StoreFault.{StoreFault}
use Rattle.bd_store.proofs.LeanExpiry.{answer_of, expiry_meets, kept_expired}
use Rattle.bd_store.proofs.NothingTouched.{shown_is}
use Rattle.bd_store.proofs.store.Store.give_up_oldest.Goals as goal
use Rattle.bd_store.proofs.store.Store.give_up_oldest.Goals.{in-Ok, in-Err}

pub overflow_sub-version : goal.overflow_sub-version
overflow_sub-version g c = omega (arith, c.retained.ensures, ap (λ (s : Shown). retained_in s.found.catalogue) c.self.view_is, c.requires.fits.some)

pub invariant_of-self : goal.invariant_of-self
invariant_of-self g c =
    let found : Found = c.self.inside.catalog.found in
    let sound : c.self.inside.worn ≡ false = ap (λ (s : Shown). s.worn) c.self.view_is ∙ c.requires.opened.sound in
    kept_expired found c.commit-named.new.self.found c.commit-named.new.space c.is_err-self-inside.result c.commit-named.result c.is_err-self-inside.ensures.value c.commit-named.ensures.made c.commit-named.ensures.owners
    (c.commit-named.ensures.extents ∙ c.self.invariant.count sound)

pub returns : goal.returns
returns g c =
    let found : Found = c.self.inside.catalog.found in
    let held : ℕ = held_count c.self.inside.space in
    let same : found ≡ c.args.self.now.found = ap (λ (s : Shown). s.found) c.self.view_is in
    let shown = shown_is found held c.args.self.now same (ap (λ (s : Shown). s.held) c.self.view_is) c.requires.opened.sound in
    let version : ℕ = c.newest.result - (c.retained.result - 1) in
    let answer : c.match-named.result ≡ answer_of version c.drop_volume-extents.result c.commit-named.result =
    elim c.match-named.branch [
      | in-Ok w ↦ w.result-is ∙ ap (answer_of version c.drop_volume-extents.result) (sym w.in-Ok.is)
      | in-Err w ↦ w.result-is ∙ ap (answer_of version c.drop_volume-extents.result) (sym w.in-Err.is)
    ] in
    let From : World → Shown → ℕ → Result Answer StoreFault → Type 0 =
    λ w before kept result. Meets g.D.Disk.tells (Unit {0}) (attempt Expire result (scene before (with_disk g.D.Disk w c.args.disk.now))
    (scene (record { found = c.commit-named.new.self.found; held = kept; worn = c.is_err-self-inside.result }) (with_disk g.D.Disk w c.commit-named.new.disk))) in
    record {
      meets = λ w.
          subst (λ (s : Shown). From w s (held_count c.commit-named.new.space) c.match-named.result) shown
          (subst (λ n. From w (record { found = found; held = held; worn = false }) n c.match-named.result) (sym c.commit-named.ensures.held)
          (subst (From w (record { found = found; held = held; worn = false }) held) (sym answer)
          (expiry_meets g.D.Disk w found held c.args.disk.now c.commit-named.new.disk
          (λ told. subst (λ (f : Found). Agrees f (g.D.Disk.history c.args.disk.now)) (sym same) (c.requires.opened.agrees told))
          (subst (λ (f : Found). FitsExpire f.catalogue) (sym same) c.requires.fits) c.commit-named.ensures.disk (Unit {0})
          version c.drop_volume-extents.result
          (omega (arith, c.newest.ensures, c.retained.ensures, ap (λ (s : Shown). retained_in s.found.catalogue) c.self.view_is, c.requires.fits.some)) c.drop_volume-extents.ensures
          c.commit-named.new.self.found c.is_err-self-inside.result c.commit-named.result
          (record { cause = c.commit-named.ensures.cause; either = c.commit-named.ensures.either; made = c.commit-named.ensures.made; done = c.commit-named.ensures.done; calls = c.commit-named.ensures.calls }) c.is_err-self-inside.ensures.value)));
    }
