use Rattle.std.proofs.Common.{◌≡◌, ◌∙◌, ◌≤◌, ap, arith, inl, inr, refl, rules, subst, sym}
use Rattle.bd_disk.proofs.Frames.{made_none}
use Rattle.bd_roll.specs.Catalogue.{retained_in}
use Rattle.bd_model.specs.declared.layout.Phase.TheVariants.{Settled}
use Rattle.bd_roll.specs.Splitting.{FitsExpire}
use Rattle.bd_catalog.specs.Opening.{Found}
use Rattle.bd_store.specs.Shown.{Shown}
use Rattle.bd_store.proofs.LeanExpiry.{fits_but_two, nothing_expires}
use Rattle.bd_store.proofs.NothingTouched.{meets_untouched, same_versions}
use Rattle.bd_store.proofs.RefusalStep.{refused_step, refused_stops}
use Rattle.bd_store.proofs.store.Store.expire.Goals as goal
use Rattle.bd_store.proofs.store.Store.expire.Goals.{else-retained-eq2-via-then-retained-eq2+else-ne, else-retained-eq2-via-else-retained-eq2}

pub returns-then-retained-eq0 : goal.returns-then-retained-eq0
returns-then-retained-eq0 g c =
    let none : retained_in c.args.self.now.found.catalogue ≡ 0 = omega (arith, c.retained-retained.ensures, c.if-retained-eq0.true, ap (λ (s : Shown). retained_in s.found.catalogue) c.self.view_is) in
    record {
      meets = λ w. meets_untouched _ _ _ c.requires.opened.sound c.requires.opened.agrees
          (record { cause = refl; has_disk = tt; answer = (none, refl); versions = same_versions c.args.self.now; settles = tt; figures = tt; reads = refl; damage = tt; recipe = λ first damage some broken. tt; rests = λ rested. rested; step = refl; arranging = λ _. inr (tt, record { writes = made_none _ _; step = refl }); finished = tt; transfers = tt })
          (λ told files_tell. refused_step _ _ _ _ _ (nothing_expires _ _ _ c.args.self.now.found (c.requires.opened.agrees told) none) refl (λ st phase. refl))
          (λ told files_tell. refused_stops _ _ _ _ _ (nothing_expires _ _ _ c.args.self.now.found (c.requires.opened.agrees told) none));
    }

pub give_up_oldest-requires-clause-fits : goal.give_up_oldest-requires-clause-fits
give_up_oldest-requires-clause-fits g c =
    let found : Found = c.self.inside.catalog.found in
    let same : found ≡ c.args.self.now.found = ap (λ (s : Shown). s.found) c.self.view_is in
    let some : 1 ≤ retained_in found.catalogue = omega (arith, c.retained-retained.ensures, c.if-retained-eq0.false) in
    let fits : FitsExpire found.catalogue =
    elim c.else-retained-eq2.branch [
      | else-retained-eq2-via-then-retained-eq2+else-ne w ↦ let settled : w.phase.result ≡ Settled = search rules in record { some = some; arranged = inl (sym w.phase.ensures ∙ settled) }
      | else-retained-eq2-via-else-retained-eq2 w ↦ fits_but_two found.sizes found.catalogue c.self.inside.catalog.rules some (λ two. w.if-retained-eq2.false (c.retained-retained.ensures ∙ two))
    ] in
    subst (λ (f : Found). FitsExpire f.catalogue) same fits
