-- A list is its step, and safe at every stop.
use Rattle.std.proofs.Common.{◌≡◌, ◌∙◌, ℕ, inl, refl, sym, ap, subst, Ok}
use Rattle.bd_disk.specs.History.{History, contents}
use Rattle.bd_disk.proofs.Frames.{leaves_same, leaves_wider}
use Rattle.bd_model.specs.FileMap.{FileMap}
use Rattle.bd_model.specs.Roomy.{Roomy}
use Rattle.bd_model.specs.State.{VersionState, history}
use Rattle.bd_model.specs.Step.{Outcome, unchanged, version_lines, without_room}
use Rattle.bd_model.specs.declared.shape.Shape.{Shape}
use Rattle.bd_model.specs.declared.answer.Answer.{Answer}
use Rattle.bd_model.specs.declared.answer.Answer.TheVariants.{Listed}
use Rattle.bd_model.specs.declared.answer.VersionLine.{VersionLine}
use Rattle.bd_model.specs.declared.command.Command.TheVariants.{List as Listing}
use Rattle.bd_model.proofs.StepLemmas.{phase-listed}
use Rattle.bd_catalog.specs.Agreement.{Agrees}
use Rattle.bd_roll.specs.Catalogue.{oldest_in}
use Rattle.bd_catalog.specs.Opening.{Found}
use Rattle.bd_catalog.specs.Standing.{StandsFor, lines_from}
use Rattle.bd_catalog.proofs.StandingLemmas.{stands-shows}
use Rattle.bd_store.specs.Steps.{IsOneStep}
use Rattle.bd_store.specs.Stops.{IsSafeAtStops}

abbrev outcome_of : Shape → VersionState → FileMap → Outcome
outcome_of shape st files = unchanged st files (Listed (record { items = version_lines st (history shape st); spare = 0 }))

pub listed_step : (held : ℕ) (h : History) (files : FileMap) (found : Found) (answer : Answer) → Agrees found h →
    without_room answer ≡ Listed (record { items = lines_from (oldest_in found.catalogue) found.catalogue.versions; spare = 0 }) → IsOneStep Listing held held h h files files (Ok answer)
listed_step held h files found answer agrees says = record {
  each = λ shape st phase near stands. record {
    outcome = outcome_of shape st files;
    leads = refl;
    says = says ∙ ap (λ lines. Listed (record { items = lines; spare = 0 })) (stands-shows stands agrees.opens).versions.lines;
    stands = subst (λ p. StandsFor shape st p held (contents h)) (sym (phase-listed st phase answer _ says)) stands;
    beside = refl;
  };
}

pub listed_stops : (held : ℕ) (h : History) (files : FileMap) (answer : Answer) → IsSafeAtStops Listing held held h h files (Ok answer)
listed_stops held h files answer = record {
  each = λ shape st near sure. record {
    within = leaves_wider _ (λ image stands. inl stands) (leaves_same refl sure);
    done = record { outcome = outcome_of shape st files; leads = refl; sure = sure };
  };
}

-- what holds of a list holds of an answer that is one
pub as_list : {lines : Roomy VersionLine} (P : Answer → Type 0) (answer : Answer) → without_room answer ≡ Listed lines → ((l : Roomy VersionLine) → P (Listed l)) → P answer
as_list P (Listed l) says each = each l
as_list P _ says each = absurd (cc says)
