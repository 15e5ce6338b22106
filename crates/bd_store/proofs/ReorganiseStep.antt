-- An arranging that is answered with the figures of a settled store is its step, and safe at every stop.
use Rattle.std.proofs.Common.{◌≡◌, ◌∙◌, false, inl, refl, sym, ap, subst, arith, Some, Ok}
use Rattle.bd_disk.specs.History.{History, contents}
use Rattle.bd_disk.proofs.Frames.{made_none}
use Rattle.bd_disk.proofs.Traces.{reads_none}
use Rattle.bd_model.specs.FileMap.{FileMap}
use Rattle.bd_model.specs.Room.{owned}
use Rattle.bd_model.specs.State.{VersionState, history}
use Rattle.bd_model.specs.Step.{free_extents, unchanged}
use Rattle.bd_model.specs.declared.answer.Answer.{Answer}
use Rattle.bd_model.specs.declared.answer.Answer.TheVariants.{Arranged}
use Rattle.bd_model.specs.declared.command.Command.TheVariants.{Reorganise}
use Rattle.bd_model.specs.declared.layout.Phase.{Phase}
use Rattle.bd_model.specs.declared.layout.Phase.TheVariants.{Settled}
use Rattle.bd_model.specs.declared.shape.Shape.{Shape}
use Rattle.bd_catalog.specs.Agreement.{Agrees}
use Rattle.bd_catalog.specs.Standing.{StandsFor}
use Rattle.bd_catalog.proofs.StandingLemmas.{stands-shows}
use Rattle.bd_store.specs.Attempts.{Meets, Scene, attempt}
use Rattle.bd_store.specs.Following.{Follows}
use Rattle.bd_store.specs.Shown.{AreFiguresOf, HasFigures, Shown}
use Rattle.bd_store.specs.Steps.{IsOneStep}
use Rattle.bd_store.specs.Stops.{IsSafeAtStops}
use Rattle.bd_store.specs.Touches.{waits}
use Rattle.bd_store.specs.declared.figures.Figures.{Figures}
use Rattle.bd_store.proofs.CommandEnds.{rests_not}
use Rattle.bd_store.proofs.NothingTouched.{common_untouched, meets_untouched, same_versions}
use Rattle.bd_store.proofs.RefusalStep.{Refuses, refused_stops}
use Rattle.bd_store.proofs.Opens.{opens_quiet}

module _ (store : Shown) (h : History) (files : FileMap) (figures : Figures) (agrees : Agrees store.found h) (settled : store.found.catalogue.phase ≡ Settled) (has : HasFigures store figures) (are : AreFiguresOf store figures) where
  abbrev answer : Answer
  answer = Arranged figures.owned figures.free

  rests : (shape : Shape) (st : VersionState) (phase : Phase) → StandsFor shape st phase store.held (contents h) → phase ≡ Settled
  rests shape st phase stands = sym (stands-shows stands agrees.opens).at_phase ∙ settled

  leads : Refuses Reorganise store.held h files answer
  leads shape st phase stands =
      let is = are.each shape st phase (contents h) agrees.opens stands in
      let owned_is : figures.owned ≡ owned shape.extent (history shape st) Settled = is.0 ∙ ap (owned shape.extent (history shape st)) (rests shape st phase stands) in
      let free_is : figures.free ≡ free_extents shape store.held st = omega (arith, is.1, owned_is, has.held) in
      λ k. Some (unchanged st files (Arranged (sym owned_is k) (sym free_is k)))

  arranged_step : IsOneStep Reorganise store.held store.held h h files files (Ok answer)
  arranged_step = record {
    each = λ shape st phase near stands. record {
      outcome = unchanged st files answer;
      leads = leads shape st phase stands;
      says = refl;
      stands = subst (λ p. StandsFor shape st p store.held (contents h)) (rests shape st phase stands) stands;
      beside = refl;
    };
  }

  arranged_stops : IsSafeAtStops Reorganise store.held store.held h h files (Ok answer)
  arranged_stops = refused_stops Reorganise store.held h files answer leads

module _ {disk files : Type 0} (s : Scene) (figures : Figures) (sound : s.store.worn ≡ false) (agrees : disk → Agrees s.store.found s.world.disk) (settled : s.store.found.catalogue.phase ≡ Settled) (has : HasFigures s.store figures) (are : AreFiguresOf s.store figures) where
  -- it follows the arranging
  pub arranged_follows : Follows disk files (attempt Reorganise (Ok (Arranged figures.owned figures.free)) s s)
  arranged_follows = record {
    common = common_untouched (Ok (Arranged figures.owned figures.free)) s sound agrees refl tt;
    ends = tt;
    answer = tt;
    store = record { held = refl; versions = same_versions s.store; settles = settled; figures = (has.owned, has.free) };
    on_disk = λ told. record { opens = opens_quiet (made_none _ s.world.disk); writes = made_none _ s.world.disk; step = refl; reads = reads_none s.world.disk; rests = λ rested. rested (ap waits settled) };
    on_files = λ told. record { beside = refl; strays = record { later = omega arith; missing = inl refl }; finished = tt; unfinished = refl; spares = tt };
    on_both = λ told files_tell. record {
      transfers = tt;
      step = arranged_step s.store s.world.disk s.world.files figures (agrees told) settled has are;
      stops = arranged_stops s.store s.world.disk s.world.files figures (agrees told) settled has are;
    };
  }

  -- a store that was settled before is left as it is
  pub meets_arranged : Meets disk files (attempt Reorganise (Ok (Arranged figures.owned figures.free)) s s)
  meets_arranged =
      meets_untouched Reorganise (Ok (Arranged figures.owned figures.free)) s sound agrees
      (record {
        cause = refl;
        has_disk = tt;
        answer = tt;
        versions = same_versions s.store;
        settles = settled;
        figures = (has.owned, has.free);
        reads = λ _. refl;
        damage = tt;
        recipe = λ waiting. rests_not s.store.found waiting settled;
        rests = λ rested. rested (ap waits settled);
        step = refl;
        arranging = λ waiting. rests_not s.store.found waiting settled;
        finished = tt;
        transfers = tt;
      })
      (λ told files_tell. arranged_step s.store s.world.disk s.world.files figures (agrees told) settled has are)
      (λ told files_tell. arranged_stops s.store s.world.disk s.world.files figures (agrees told) settled has are)
