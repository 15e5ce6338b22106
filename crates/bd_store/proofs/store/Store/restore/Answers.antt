use Rattle.std.proofs.Common.{◌≡◌, ◌-◌, ◌<◌, ◌∙◌, ⊎_elim, inl, inr, refl, sym, ap, arith}
use Rattle.bd_roll.specs.Catalogue.{oldest_in, retained_in}
use Rattle.bd_store.specs.Shown.{Shown}
use Rattle.bd_store.proofs.AskedVersion.{none_beside, nothing_refuses, number_refuses}
use Rattle.bd_store.proofs.NothingTouched.{meets_untouched, same_versions}
use Rattle.bd_store.proofs.RefusalStep.{refused_step, refused_stops}
use Rattle.bd_store.proofs.store.Store.restore.Goals as goal

pub returns-then-retained-eq0 : goal.returns-then-retained-eq0
returns-then-retained-eq0 g c =
    let none : retained_in c.args.self.now.found.catalogue ≡ 0 = ap (λ (s : Shown). retained_in s.found.catalogue) (sym c.self.view_is) ∙ sym c.retained-retained.ensures ∙ c.if-retained-eq0.true in
    record {
      meets = λ w. meets_untouched _ _ _ c.requires.opened.sound c.requires.opened.agrees
          (record { cause = refl; has_disk = tt; answer = (none, refl); versions = same_versions c.args.self.now; settles = tt; figures = tt; reads = refl; damage = tt; recipe = λ damage is. tt; rests = λ rested. rested; step = refl; arranging = λ no. absurd (cc no); finished = tt; transfers = tt })
          (λ told files_tell. refused_step _ _ _ _ _ (nothing_refuses _ _ _ _ _ c.args.self.now.found (c.requires.opened.agrees told) none) refl (λ st phase. refl))
          (λ told files_tell. refused_stops _ _ _ _ _ (nothing_refuses _ _ _ _ _ c.args.self.now.found (c.requires.opened.agrees told) none));
    }

pub returns-then-version-oldest : goal.returns-then-version-oldest
returns-then-version-oldest g c =
    let high : c.newest-newest.result ≡ c.args.self.now.found.catalogue.newest = c.newest-newest.ensures ∙ ap (λ (s : Shown). s.found.catalogue.newest) c.self.view_is in
    let count : c.retained-retained.result ≡ retained_in c.args.self.now.found.catalogue = c.retained-retained.ensures ∙ ap (λ (s : Shown). retained_in s.found.catalogue) c.self.view_is in
    let some : 0 < retained_in c.args.self.now.found.catalogue = omega (arith, count, c.if-retained-eq0.false) in
    let low : c.newest-newest.result - (c.retained-retained.result - 1) ≡ oldest_in c.args.self.now.found.catalogue = omega (arith, high, count, some) in
    record {
      meets = λ w. meets_untouched _ _ _ c.requires.opened.sound c.requires.opened.agrees
          (record {
            cause = refl;
            has_disk = tt;
            answer = (some, none_beside c.args.self.now.found c.args.version (⊎_elim (λ below. inl (omega (arith, below, low))) (λ above. inr (omega (arith, above.1, high))) c.then-version-oldest.either), refl, low, high);
            versions = same_versions c.args.self.now;
            settles = tt;
            figures = tt;
            reads = refl;
            damage = tt;
            recipe = λ damage is. tt;
            rests = λ rested. rested;
            step = refl;
            arranging = λ no. absurd (cc no);
            finished = tt;
            transfers = tt;
          })
          (λ told files_tell. refused_step _ _ _ _ _ (number_refuses _ _ _ _ _ c.args.self.now.found (c.requires.opened.agrees told) _ _ some low high c.then-version-oldest.either) refl (λ st phase. refl))
          (λ told files_tell. refused_stops _ _ _ _ _ (number_refuses _ _ _ _ _ c.args.self.now.found (c.requires.opened.agrees told) _ _ some low high c.then-version-oldest.either));
    }
