-- Which version a restore is asked for: what its step answers by the numbers, over any state for which the contents stand.
use Rattle.std.proofs.Common.{◌≡◌, ◌⊎◌, inl, inr, ⊎_elim, ℕ, ◌<◌, ◌≤◌, false, true, cond, ◌&&◌, List, sym, ◌∙◌, ap, arith, nat_le, le-leb, eq-eqb, Option, Some}
use Rattle.std.proofs.lemmas.Bool.{and_from, and_left, and_right, lt-leb, ne_eqb}
use Rattle.bd_disk.specs.History.{History as Moment}
use Rattle.bd_model.specs.FileMap.{FileMap}
use Rattle.bd_model.specs.declared.shape.Shape.{Shape}
use Rattle.bd_model.specs.declared.answer.Answer.TheVariants.{NoVersion, NothingRetained}
use Rattle.bd_model.specs.declared.command.Command.{Command}
use Rattle.bd_model.specs.declared.command.Command.TheVariants.{Restore}
use Rattle.bd_model.specs.History.{VersionHistory, newest, oldest, retained}
use Rattle.bd_model.specs.State.{VersionState, history}
use Rattle.bd_model.specs.Step.{Outcome, restore, step, unchanged}
use Rattle.bd_catalog.specs.Agreement.{Agrees}
use Rattle.bd_roll.specs.Catalogue.{Catalogue, oldest_in, retained_in}
use Rattle.bd_catalog.specs.Opening.{Found}
use Rattle.bd_catalog.specs.Standing.{HasNumbers}
use Rattle.bd_catalog.proofs.StandingLemmas.{stands-shows}
use Rattle.bd_store.specs.Touches.{is_retained}
use Rattle.bd_store.proofs.RefusalStep.{Refuses}

module _ (shape : Shape) (held : ℕ) (st : VersionState) (files : FileMap) (v : ℕ) (name : List ℕ) where
  abbrev h : VersionHistory
  h = history shape st

  abbrev asked : Option Outcome
  asked = cond (nat_le (oldest h) v && nat_le v (newest h)) (Some (restore st files v name)) (Some (unchanged st files (NoVersion v (oldest h) (newest h))))

  abbrev t : Command
  t = Restore v name

  -- where nothing is retained
  pub nothing_step : retained h ≡ 0 → step shape held st files t ≡ Some (unchanged st files (NothingRetained (Some v)))
  nothing_step none = ap (λ b. cond b (Some (unchanged st files (NothingRetained (Some v)))) asked) (eq-eqb (retained h) 0 none)

  some_step : 0 < retained h → step shape held st files t ≡ asked
  some_step some = ap (λ b. cond b (Some (unchanged st files (NothingRetained (Some v)))) asked) (ne_eqb (retained h) 0 (λ e. absurd (omega arith)))

  -- where this number isn't retained
  pub no_version_step : 0 < retained h → (nat_le (oldest h) v && nat_le v (newest h)) ≡ false → step shape held st files t ≡ Some (unchanged st files (NoVersion v (oldest h) (newest h)))
  no_version_step some out = some_step some ∙ ap (λ b. cond b (Some (restore st files v name)) (Some (unchanged st files (NoVersion v (oldest h) (newest h))))) out

  -- where it is
  pub restore_step : 0 < retained h → oldest h ≤ v → v ≤ newest h → step shape held st files t ≡ Some (restore st files v name)
  restore_step some low high =
      some_step some
      ∙ ap (λ b. cond b (Some (restore st files v name)) (Some (unchanged st files (NoVersion v (oldest h) (newest h))))) (and_from (nat_le (oldest h) v) (nat_le v (newest h)) (le-leb (oldest h) v low) (le-leb v (newest h) high))

-- the oldest number of a catalogue that retains something is that of the state
pub same_oldest : (h : VersionHistory) (c : Catalogue) → HasNumbers h c → 0 < retained_in c → oldest_in c ≡ oldest h
same_oldest h c numbers some = omega (arith, numbers.newest, numbers.retained)

-- a number before the oldest one isn't retained, nor is one behind the newest
pub none_beside : (found : Found) (v : ℕ) → (v < oldest_in found.catalogue) ⊎ (found.catalogue.newest < v) → is_retained found v ≡ false
none_beside found v beside =
    ⊎_elim
    (λ below. and_left (nat_le (oldest_in found.catalogue) v) (nat_le v found.catalogue.newest) (lt-leb (oldest_in found.catalogue) v below))
    (λ above. and_right (nat_le (oldest_in found.catalogue) v) (nat_le v found.catalogue.newest) (lt-leb v found.catalogue.newest above)) beside

-- every number between them is
pub retained_is : (found : Found) (v : ℕ) → oldest_in found.catalogue ≤ v → v ≤ found.catalogue.newest → is_retained found v ≡ true
retained_is found v low high = and_from (nat_le (oldest_in found.catalogue) v) (nat_le v found.catalogue.newest) (le-leb (oldest_in found.catalogue) v low) (le-leb v found.catalogue.newest high)

module _ (held : ℕ) (m : Moment) (files : FileMap) (v : ℕ) (name : List ℕ) (found : Found) (agrees : Agrees found m) where
  -- a store that retains nothing
  pub nothing_refuses : retained_in found.catalogue ≡ 0 → Refuses (Restore v name) held m files (NothingRetained (Some v))
  nothing_refuses none shape st phase stands = nothing_step shape held st files v name (sym (stands-shows stands agrees.opens).numbers.retained ∙ none)

  -- a store that doesn't retain this version
  pub number_refuses : (low high : ℕ) → 0 < retained_in found.catalogue → low ≡ oldest_in found.catalogue → high ≡ found.catalogue.newest → (v < low) ⊎ ((low ≤ v) × (high < v)) → Refuses (Restore v name) held m files (NoVersion v low high)
  number_refuses low high some is_low is_high beside shape st phase stands =
      let numbers = (stands-shows stands agrees.opens).numbers in
      let oldest_is : oldest_in found.catalogue ≡ oldest (history shape st) = same_oldest (history shape st) found.catalogue numbers some in
      let out : is_retained found v ≡ false = none_beside found v (⊎_elim (λ below. inl (omega (arith, below, is_low))) (λ above. inr (omega (arith, above.1, is_high))) beside) in
      no_version_step shape held st files v name (omega (arith, numbers.retained))
      (ap (λ n. nat_le n v && nat_le v (newest (history shape st))) (sym oldest_is) ∙ ap (λ n. nat_le (oldest_in found.catalogue) v && nat_le v n) (sym numbers.newest) ∙ out)
      ∙ (λ k. Some (unchanged st files (NoVersion v (sym (is_low ∙ oldest_is) k) (sym (is_high ∙ numbers.newest) k))))
