-- What holds along a list of commands.
use Rattle.std.proofs.Common.{◌≡◌, ℕ, zero, suc, List, [], ◌∷◌, refl, subst, map, drop, Some, None, IfSome, slice_get}
use Rattle.bd_model.specs.declared.shape.Shape.{Shape}
use Rattle.bd_model.specs.FileMap.{FileMap}
use Rattle.bd_model.specs.Folds.{HeldCommand, Point, outcomes, after}
use Rattle.bd_model.specs.State.{VersionState, IsState}
use Rattle.bd_model.specs.Step.{Outcome, step}
use Rattle.bd_model.specs.CommandLaws.{Keeps, StatesStayLegal}
use Rattle.bd_model.proofs.StepLemmas.{keeps, IsPhase-step}

module _ (shape : Shape) (Holds : VersionState → FileMap → List HeldCommand → Type 0)
    (stays : (s : VersionState) (files : FileMap) (c : HeldCommand) (commands : List HeldCommand) (o : Outcome) → step shape c.held s files c.command ≡ Some o → Holds s files (c ∷ commands) → Holds o.state o.files commands) where
  -- what every command keeps holds after any number of them
  pub along : (commands : List HeldCommand) (s : VersionState) (files : FileMap) (k : ℕ) (p : Point) → after shape s files commands k ≡ Some p → Holds s files commands → Holds p.state p.files (drop k commands)
  along commands s files zero p e h = subst (λ (q : Point). Holds q.state q.files commands) (first p e) h
    where
      first : (p : Point) → Some (record { state = s; files = files }) ≡ Some p → record { state = s; files = files } ≡ p
      first p e = cc
  along [] s files (suc k) p e h = absurd (none p e)
    where
      none : (p : Point) → None ≡ Some p → ⊥
      none p e = cc
  along (c ∷ commands) s files (suc k) p e h =
      elim (step shape c.held s files c.command)
      as (λ t. step shape c.held s files c.command ≡ t → slice_get (map (λ o. record { state = o.state; files = o.files }) (elim t as (λ _. List Outcome) [ None ↦ [] | Some o ↦ o ∷ outcomes shape o.state o.files commands ])) k ≡ Some p → Holds p.state p.files (drop k commands)) [
        | None ↦ λ is f. absurd (none p f)
        | Some o ↦ λ is f. along commands o.state o.files k p f (stays s files c commands o is h)
      ] refl e
    where
      none : (p : Point) → None ≡ Some p → ⊥
      none p e = cc

pub states_stay_legal : StatesStayLegal
states_stay_legal = record {
  command = keeps;
  all = λ shape s files commands k p e is.
      along shape (λ s files commands. IsState s) (λ s files c commands o step_is legal. (subst (λ t. IfSome t (Keeps shape s)) step_is (keeps shape c.held s files c.command legal)).state) commands s files k p e is;
  arranging = IsPhase-step;
}
