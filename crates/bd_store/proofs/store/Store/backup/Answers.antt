use Rattle.std.proofs.Common.{◌≡◌, ◌∙◌, ◌<◌, inr, refl, sym, ap, arith}
use Rattle.bd_disk.proofs.Frames.{made_none}
use Rattle.bd_model.specs.State.{last_number}
use Rattle.bd_roll.specs.Catalogue.{retained_in}
use Rattle.bd_store.specs.Shown.{Shown}
use Rattle.bd_store.proofs.NothingTouched.{meets_untouched, same_versions}
use Rattle.std.proofs.lemmas.Bool.{eq-eqb, ne_eqb}
use Rattle.bd_store.proofs.RefusalStep.{numbers_refuse, versions_refuse, refused_step, refused_stops}
use Rattle.bd_store.proofs.Taken.{takes_nothing, takes_untouched}
use Rattle.bd_store.proofs.store.Store.backup.Goals as goal

pub returns-then-newest : goal.returns-then-newest
returns-then-newest g c =
    let used : c.args.self.now.found.catalogue.newest ≡ last_number = omega (arith, c.newest.ensures, c.if-newest.true, ap (λ (s : Shown). s.found.catalogue.newest) c.self.view_is) in
    record {
      meets = λ w. meets_untouched _ _ _ c.requires.opened.sound c.requires.opened.agrees
          (record { cause = refl; has_disk = tt; answer = eq-eqb _ _ used; versions = same_versions c.args.self.now; settles = tt; figures = tt; reads = refl; damage = tt; recipe = λ damage some is. tt; rests = λ rested. rested; step = refl; arranging = λ _. inr (tt, record { writes = made_none _ _; step = refl }); finished = tt; transfers = takes_nothing (λ s. tt) tt (λ old stream. takes_untouched _ _) })
          (λ told files_tell. refused_step _ _ _ _ _ (numbers_refuse _ _ _ _ c.args.self.now.found (c.requires.opened.agrees told) used) refl (λ st phase. refl))
          (λ told files_tell. refused_stops _ _ _ _ _ (numbers_refuse _ _ _ _ c.args.self.now.found (c.requires.opened.agrees told) used));
    }

pub returns-then-retained-retain : goal.returns-then-retained-retain
returns-then-retained-retain g c =
    let below : c.args.self.now.found.catalogue.newest < last_number = omega (arith, c.newest.ensures, c.if-newest.false, c.newest.type_inv, ap (λ (s : Shown). s.found.catalogue.newest) c.self.view_is) in
    let count : retained_in c.args.self.now.found.catalogue ≡ c.retained-retained.result = ap (λ (s : Shown). retained_in s.found.catalogue) (sym c.self.view_is) ∙ sym c.retained-retained.ensures in
    let used : retained_in c.args.self.now.found.catalogue ≡ c.args.self.now.found.sizes.retain =
    count ∙ c.if-retained-retain.true ∙ c.retain.ensures ∙ ap (λ s. s.retain) c.shape-shape.ensures ∙ ap (λ (s : Shown). s.found.sizes.retain) c.self.view_is in
    record {
      meets = λ w. meets_untouched _ _ _ c.requires.opened.sound c.requires.opened.agrees
          (record { cause = refl; has_disk = tt; answer = (ne_eqb _ _ (λ e. absurd (omega (arith, e, below))), eq-eqb _ _ used, sym count ∙ used); versions = same_versions c.args.self.now; settles = tt; figures = tt; reads = refl; damage = tt; recipe = λ damage some is. tt; rests = λ rested. rested; step = refl; arranging = λ _. inr (tt, record { writes = made_none _ _; step = refl }); finished = tt; transfers = takes_nothing (λ s. tt) tt (λ old stream. takes_untouched _ _) })
          (λ told files_tell. refused_step _ _ _ _ _ (versions_refuse _ _ _ _ c.args.self.now.found _ (c.requires.opened.agrees told) below used count) refl (λ st phase. refl))
          (λ told files_tell. refused_stops _ _ _ _ _ (versions_refuse _ _ _ _ c.args.self.now.found _ (c.requires.opened.agrees told) below used count));
    }
