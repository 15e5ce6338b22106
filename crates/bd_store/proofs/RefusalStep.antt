-- An answer that touches nothing is its step, and safe at every stop.
use Rattle.std.proofs.Common.{◌≡◌, ℕ, ◌<◌, List, inl, refl, sym, ◌∙◌, ap, subst, arith, false, Some, Ok}
use Rattle.std.proofs.lemmas.Bool.{ne_eqb, or_from}
use Rattle.bd_disk.specs.History.{History, contents}
use Rattle.bd_disk.proofs.Frames.{contents_now, leaves_same, leaves_wider}
use Rattle.bd_model.specs.FileMap.{FileMap}
use Rattle.bd_model.specs.declared.shape.Shape.{Shape}
use Rattle.bd_model.specs.declared.layout.Phase.{Phase}
use Rattle.bd_model.specs.declared.answer.Answer.{Answer}
use Rattle.bd_model.specs.declared.answer.Answer.TheVariants.{FullNumbers, FullVersions}
use Rattle.bd_model.specs.declared.command.Command.{Command}
use Rattle.bd_model.specs.declared.command.Command.TheVariants.{Backup}
use Rattle.bd_model.specs.State.{VersionState, last_number}
use Rattle.bd_model.specs.Step.{unchanged, phase_after, without_room}
use Rattle.bd_catalog.specs.Agreement.{Agrees}
use Rattle.bd_roll.specs.Catalogue.{retained_in}
use Rattle.bd_catalog.specs.Opening.{Found}
use Rattle.bd_catalog.specs.Standing.{StandsFor, Stands}
use Rattle.bd_catalog.proofs.StandingLemmas.{stands-shows}
use Rattle.bd_catalog.proofs.StandingAnswers.{full_numbers, full_versions}
use Rattle.bd_store.specs.Steps.{task, LeadsTo, IsOneStep}
use Rattle.bd_store.specs.Stops.{IsSafeAtStops}
use Rattle.bd_store.specs.Touches.{is_full, numbers_used_up, versions_used_up}

module _ (command : Command) (held : ℕ) (h : History) (files : FileMap) (answer : Answer) where
  -- the answer is the step's, whatever state the contents stand for
  abbrev pub Refuses : Type 0
  Refuses = (shape : Shape) (st : VersionState) (phase : Phase) → StandsFor shape st phase held (contents h) → LeadsTo (task shape held st files command) (unchanged st files answer)

  pub refused_step : Refuses → without_room answer ≡ answer → ((st : VersionState) (phase : Phase) → phase_after st phase answer ≡ phase) → IsOneStep command held held h h files files (Ok answer)
  refused_step leads plain stays = record {
    each = λ shape st phase near stands. record {
      outcome = unchanged st files answer;
      leads = leads shape st phase stands;
      says = plain;
      stands = subst (λ p. StandsFor shape st p held (contents h)) (sym (stays st phase)) stands;
      beside = refl;
    };
  }

  pub refused_stops : Refuses → IsSafeAtStops command held held h h files (Ok answer)
  refused_stops leads = record {
    each = λ shape st near sure.
        let now : Stands shape held st (contents h) = sure.each (contents h) (contents_now h) in
        record {
          within = leaves_wider _ (λ image stands. inl stands) (leaves_same refl sure);
          done = record { outcome = unchanged st files answer; leads = leads shape st now.phase now.so; sure = sure };
        };
  }

-- a store whose numbers are used up
pub numbers_refuse : (held : ℕ) (h : History) (files : FileMap) (name : List ℕ) (found : Found) → Agrees found h → found.catalogue.newest ≡ last_number →
    Refuses (Backup name) held h files FullNumbers
numbers_refuse held h files name found agrees used shape st phase stands =
    full_numbers shape held st files name (sym (stands-shows stands agrees.opens).numbers.newest ∙ used)

-- a store that retains as many versions as it may
pub versions_refuse : (held : ℕ) (h : History) (files : FileMap) (name : List ℕ) (found : Found) (count : ℕ) → Agrees found h → found.catalogue.newest < last_number → retained_in found.catalogue ≡ found.sizes.retain → retained_in found.catalogue ≡ count →
    Refuses (Backup name) held h files (FullVersions count)
versions_refuse held h files name found count agrees below used same shape st phase stands =
    let shows = stands-shows stands agrees.opens in
    let most : found.sizes.retain ≡ shape.retain = ap (λ s. s.retain) shows.sizes in
    full_versions shape held st files name (subst (λ n. n < last_number) shows.numbers.newest below) (sym shows.numbers.retained ∙ used ∙ most)
    ∙ ap (λ n. Some (unchanged st files (FullVersions n))) (sym most ∙ sym used ∙ same)

-- a backup that is refused by no number goes on
pub backup_goes_on : (found : Found) → found.catalogue.newest < last_number → retained_in found.catalogue < found.sizes.retain → is_full found ≡ false
backup_goes_on found below fewer =
    or_from (numbers_used_up found) (versions_used_up found)
    (ne_eqb found.catalogue.newest last_number (λ e. absurd (omega (arith, e, below))))
    (ne_eqb (retained_in found.catalogue) found.sizes.retain (λ e. absurd (omega (arith, e, fewer))))
