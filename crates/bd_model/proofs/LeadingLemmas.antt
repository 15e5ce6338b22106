-- Where the commands of a list lead.
use Rattle.std.proofs.Common.{◌≡◌, ℕ, zero, suc, ◌+◌, ◌≤◌, arith, List, [], ◌∷◌, ◌++◌, refl, sym, ◌∙◌, ap, subst, map, take, Some, None, Option, slice_get}
use Rattle.bd_model.specs.declared.shape.Shape.{Shape}
use Rattle.bd_model.specs.FileMap.{FileMap}
use Rattle.bd_model.specs.CommandLaws.{CommandsLeadOn}
use Rattle.bd_model.specs.Folds.{HeldCommand, Point, point_of, outcomes, after, answers_of}
use Rattle.bd_model.specs.State.{VersionState}
use Rattle.bd_model.specs.Step.{Outcome, step}
use Rattle.bd_model.proofs.ListLemmas.{same_some}

no_point : (p : Point) → None ≡ Some p → ⊥
no_point p e = cc

abbrev no_commands : List HeldCommand
no_commands = []

module _ (shape : Shape) where
  abbrev later : Option Outcome → List HeldCommand → List Outcome
  later r commands = elim r as (λ _. List Outcome) [ None ↦ [] | Some o ↦ o ∷ outcomes shape o.state o.files commands ]

  abbrev Leads : ℕ → List Outcome → Outcome → Type 0
  Leads k os o = (slice_get (map point_of os) k ≡ Some (point_of o)) × (take (suc k) (map (λ (x : Outcome). x.answer) os) ≡ take k (map (λ (x : Outcome). x.answer) os) ++ o.answer ∷ [])

  leads_on : (commands : List HeldCommand) (s : VersionState) (files : FileMap) (k : ℕ) (p : Point) (c : HeldCommand) (o : Outcome) →
      after shape s files commands k ≡ Some p → slice_get commands k ≡ Some c → step shape c.held p.state p.files c.command ≡ Some o → Leads k (outcomes shape s files commands) o
  leads_on [] s files k p c o e there is = absurd (none k there)
    where
      none : (k : ℕ) → slice_get no_commands k ≡ Some c → ⊥
      none zero f = cc
      none (suc k) f = cc
  leads_on (d ∷ commands) s files zero p c o e there is =
      let same : d ≡ c = same_some there in
      let here : record { state = s; files = files } ≡ p = same_some e in
      let made : step shape d.held s files d.command ≡ Some o = (λ i. step shape (same i).held (here i).state (here i).files (same i).command) ∙ is in
      subst (λ r. Leads 0 (later r commands) o) (sym made) (refl, refl)
  leads_on (d ∷ commands) s files (suc k) p c o e there is =
      elim (step shape d.held s files d.command) as (λ t. slice_get (map point_of (later t commands)) k ≡ Some p → Leads (suc k) (later t commands) o) [
        | None ↦ λ f. absurd (no_point p f)
        | Some q ↦ λ f. let rest = leads_on commands q.state q.files k p c o f there is in (rest.0, ap (λ xs. q.answer ∷ xs) rest.1)
      ] e

  alike : (commands : List HeldCommand) (s : VersionState) (files : FileMap) (n k : ℕ) → k ≤ n → after shape s files (take n commands) k ≡ after shape s files commands k
  alike commands s files n zero le = refl
  alike [] s files zero (suc k) le = refl
  alike [] s files (suc n) (suc k) le = refl
  alike (d ∷ commands) s files zero (suc k) le = absurd (omega (arith, le))
  alike (d ∷ commands) s files (suc n) (suc k) le =
      elim (step shape d.held s files d.command) as (λ t. slice_get (map point_of (later t (take n commands))) k ≡ slice_get (map point_of (later t commands)) k) [
        | None ↦ refl
        | Some q ↦ alike commands q.state q.files n k (omega arith)
      ]

pub commands_lead_on : CommandsLeadOn
commands_lead_on = record {
  alike = λ shape s files commands n k le. alike shape commands s files n k le;
  next = λ shape s files commands k p c o e there is.
      let following : suc k ≡ k + 1 = omega arith in
      subst (λ n. (after shape s files commands n ≡ Some (point_of o)) × (take n (answers_of shape s files commands) ≡ take k (answers_of shape s files commands) ++ o.answer ∷ [])) following
      (leads_on shape commands s files k p c o e there is);
}
