-- What arranging leaves of the states for which the contents stood.
use Rattle.std.proofs.Common.{◌≡◌, ◌≢◌, ⊎_elim, inr, ℕ, zero, suc, ◌+◌, ◌-◌, ◌<◌, ◌≤◌, List, [], ◌∷◌, length, take, map, flat_map, refl, sym, ◌∙◌, ap, subst, arith}
use Rattle.std.specs.Prelude.{IsTrue, OnErr, OnOk, Result, Ok, Err}
use Rattle.bd_disk.specs.History.{History, contents}
use Rattle.bd_disk.specs.Images.{Agree, AgreeBut}
use Rattle.bd_disk.specs.Made.{LeavesNow, LeavesSince, WritesOnly}
use Rattle.bd_disk.proofs.AgreeLemmas.{agree_fewer, agree_trans}
use Rattle.bd_disk.proofs.Frames.{contents_now, leaves_both, leaves_now, leaves_same, leaves_wider, same_contents, writes_wider}
use Rattle.bd_model.specs.Extents.{owner_bytes}
use Rattle.bd_model.specs.Marks.{Near}
use Rattle.bd_model.specs.Sizes.{Sizes, extent_place}
use Rattle.bd_model.specs.State.{VersionState, history}
use Rattle.bd_model.specs.declared.damage.Damage.{Damage}
use Rattle.bd_model.specs.declared.layout.Phase.{Phase}
use Rattle.bd_model.specs.declared.layout.Phase.TheVariants.{Settled}
use Rattle.bd_model.specs.declared.layout.RecipeEntry.{RecipeEntry}
use Rattle.bd_model.specs.declared.shape.Shape.{Shape}
use Rattle.bd_gate.proofs.Kept.{within_halves}
use Rattle.bd_space.specs.Allotment.{Allotment, free_count, held_count}
use Rattle.bd_space.proofs.Exact.{taken_count-exact}
use Rattle.bd_space.proofs.Uses.{counts-all}
use Rattle.bd_catalog.specs.Agreement.{Agrees}
use Rattle.bd_roll.specs.Catalogue.{Catalogue, all_extents, bytes_of_rows}
use Rattle.bd_catalog.specs.Opening.{Found}
use Rattle.bd_roll.specs.Rules.{ascends, obeys}
use Rattle.bd_roll.specs.Splitting.{FitsArrange, KeptEntry, MaySplits, SplitEntry, after_arrange, after_splits, kept_of, last_extents, last_rows}
use Rattle.bd_catalog.specs.Standing.{BeginWith, StandsFor, Stands}
use Rattle.bd_catalog.specs.Steps.{HasCommitted, InOtherHalf, IsMade, LeavesEither, committed}
use Rattle.bd_catalog.proofs.CommitLemmas.{number-small}
use Rattle.bd_roll.proofs.RuleLemmas.{IsBounded}
use Rattle.bd_roll.proofs.SplitsAsOne.{arrange_fits}
use Rattle.bd_catalog.proofs.Staged.{AreUnnamed, agrees_staged, either_stands, staged_commit, staged_stands, staging}
use Rattle.bd_catalog.proofs.StandingLemmas.{halves_agree}
use Rattle.bd_catalog.proofs.StandingFound.{opened-found}
use Rattle.bd_catalog.proofs.StandingNamed.{stands_settled}
use Rattle.bd_recipe.specs.Reading.{IfDamaged, recipe_found}
use Rattle.bd_recipe.specs.declared.fault.ReadFault.{ReadFault}
use Rattle.bd_recipe.specs.declared.fault.ReadFault.TheVariants.{DiskFault, Damaged, OutOfMemory}
use Rattle.bd_volume.specs.Named.{InNamed, IsUnnamed}
use Rattle.bd_volume.proofs.Beside.{half_beside, half_front, unnamed_beside}
use Rattle.bd_volume.proofs.Unnamed.{named_bytes_decide}
use Rattle.bd_arrange.specs.Arranged.{AnArrangedStoreStands, AnswersDue, Arranges, ButDiskFault, IsAllotted, IsArrangedFrom, IsDamageOfDue, IsSpared, KeepsStates}
use Rattle.bd_arrange.specs.Desks.{OnDesk}
use Rattle.bd_arrange.specs.Opens.{IsSafeOpening, OpensSoFar, OpensWith}
use Rattle.bd_arrange.specs.Turns.{AreArranged, Ground, due, ground, grown_bytes}
use Rattle.bd_arrange.specs.Underway.{HasSplits, HasTurned, IsStaged, arranged_at}
use Rattle.bd_arrange.proofs.Moved.{arranged_stays}
use Rattle.bd_arrange.proofs.NoDamage.{never_damaged}
use Rattle.bd_arrange.proofs.Opens.{not_yet, opens_committed, opens_staged}

-- ---- nothing was done

pub keeps_settled : (held : ℕ) (found : Found) (h : History) → Agrees found h → found.catalogue.phase ≡ Settled → KeepsStates {T = Unit {0}} held h h (Ok tt)
keeps_settled held found h agrees settled = record {
  contents = record { each = λ shape st phase near stands. stands_settled stands agrees.opens settled };
  stops = record { each = λ shape st near sure. leaves_same refl sure };
}

pub keeps_all : (held : ℕ) (h : History) → KeepsStates {T = Unit {0}} held h h (Err OutOfMemory)
keeps_all held h = record {
  contents = record { each = λ shape st phase near stands. stands };
  stops = record { each = λ shape st near sure. leaves_same refl sure };
}

pub opens_at_once : {held : ℕ} {found : Found} {h : History} → IsSafeOpening held found h h
opens_at_once {held} {found} {h} sure = leaves_wider (OpensSoFar held found (contents h)) not_yet (leaves_same refl sure)

-- ---- places that nothing names

are_unnamed : (shape : Shape) (held : ℕ) (st : VersionState) (found : Found) → AreUnnamed shape held st found (IsUnnamed found.sizes found.catalogue)
are_unnamed shape held st found = record {
  behind = λ place p. p.behind;
  each = λ phase image other f opens sizes catalogue agree stands.
      named_bytes_decide.elsewhere shape st phase held image other f opens
      (subst (λ s. AgreeBut (IsUnnamed s f.catalogue) image other) (sym sizes) (subst (λ c. AgreeBut (IsUnnamed found.sizes c) image other) (sym catalogue) agree)) stands;
}

take_again : (n : ℕ) (xs : List ℕ) → take (length (take n xs)) xs ≡ take n xs
take_again zero xs = refl
take_again (suc n) [] = refl
take_again (suc n) (x ∷ xs) = ap (λ l. x ∷ l) (take_again n xs)

-- ---- places that may be written

module _ (found : Found) (small : found.half.number ≤ 1) where
  pub staged_spared : (place : ℕ) → IsStaged found place → IsSpared found place
  staged_spared place staged = record { beside = unnamed_beside found small place staged.ends staged.unnamed; whose = staged.whose }

  pub half_spared : (place : ℕ) → InOtherHalf found place → IsSpared found place
  half_spared place inside =
      let front : place < extent_place found.sizes 0 = half_front found.sizes (1 - found.half.number) place (omega (arith, small)) inside in
      record { beside = half_beside found small place inside; whose = λ extent within owned. absurd (omega (arith, within.0, front)) }

module _ (found : Found) (h0 h1 : History) (agrees : Agrees found h0) (writes : WritesOnly (IsStaged found) h0 h1) where
  abbrev s : Sizes
  s = found.sizes

  abbrev c : Catalogue
  c = found.catalogue

  unnamed : WritesOnly (IsUnnamed s c) h0 h1
  unnamed = writes_wider (IsUnnamed s c) (λ place p. p.unnamed) writes

  pub agrees_now : Agrees found h1
  agrees_now = agrees_staged found (IsUnnamed s c) (λ place p. p.behind) agrees unnamed

  module _ (held : ℕ) where
    stands_now : (shape : Shape) (st : VersionState) (phase : Phase) → StandsFor shape st phase held (contents h0) → StandsFor shape st phase held (contents h1)
    stands_now shape st phase stands = staged_stands found (IsUnnamed s c) (are_unnamed shape held st found) agrees unnamed phase stands

    -- ---- a refusal before the commit

    refused : (shape : Shape) (st : VersionState) (phase : Phase) (fault : ReadFault) → IfDamaged {T = Unit {0}} (Err fault) (λ damage. IsDamageOfDue found damage h0 h1) → StandsFor shape st phase held (contents h0) →
        Arranges {T = Unit {0}} shape st phase held (contents h1) (Err fault)
    refused shape st phase DiskFault met stands = record { phase = phase; so = stands_now shape st phase stands }
    refused shape st phase (Damaged damage) met stands = never_damaged shape st phase held found h0 h1 stands agrees.opens damage met
    refused shape st phase OutOfMemory met stands = stands_now shape st phase stands

    pub keeps_refused : (fault : ReadFault) → IfDamaged {T = Unit {0}} (Err fault) (λ damage. IsDamageOfDue found damage h0 h1) → KeepsStates {T = Unit {0}} held h0 h1 (Err fault)
    keeps_refused fault met = record {
      contents = record { each = λ shape st phase near stands. refused shape st phase fault met stands };
      stops = record { each = λ shape st near sure. staging found (IsUnnamed s c) (are_unnamed shape held st found) agrees unnamed sure };
    }

    pub opens_refused : IsSafeOpening held found h0 h1
    opens_refused sure = leaves_wider (OpensSoFar held found (contents h0)) not_yet (opens_staged found sure (IsUnnamed s c) (λ place p. p.behind) unnamed)

  -- ---- what was made is named

  module _ (law : AnArrangedStoreStands) (entries : List RecipeEntry) (space : Allotment) (desk : OnDesk) (es : List SplitEntry) (waits : c.phase ≢ Settled)
      (newest : recipe_found s c (contents h0) c.newest ≡ Ok entries) (allotted : IsAllotted found space) (has : HasSplits c es desk) (may : MaySplits s c es)
      (turned : HasTurned (ground s entries (contents h0)) (contents h1) (free_count space) c (due c) es desk.filling) where
    abbrev after : Found
    after = committed found (arranged_at found desk)

    abbrev held : ℕ
    held = held_count space

    abbrev g : Ground
    g = ground s entries (contents h0)

    begins_with : BeginWith s (last_extents (after_splits c es).volumes) (grown_bytes g c es) (contents h1)
    begins_with =
        let owner = owner_bytes s desk.filling.numbers (contents h1) in
        let here : take (length (grown_bytes g c es)) owner ≡ grown_bytes g c es = subst (λ l. take (length l) owner ≡ l) turned.volume (take_again (bytes_of_rows desk.filling.rows) owner) in
        record { front = subst (λ ns. take (length (grown_bytes g c es)) (owner_bytes s ns (contents h1)) ≡ grown_bytes g c es) has.numbers here }

    free_is : free_count space ≡ s.extents - held - length (all_extents c)
    free_is = omega (arith, counts-all space, taken_count-exact space (all_extents c) allotted.owners, allotted.count)

    arranged_before : IsArrangedFrom held found after (contents h0) (contents h1)
    arranged_before = record {
      entries = entries;
      newest = newest;
      splits = es;
      turns = subst (λ free. AreArranged g (contents h1) free c es) free_is (record { turns = turned.turns; may = may; volume = begins_with });
      sizes = refl;
      catalogue = λ k. after_arrange c (has.rows k) (has.added k) (has.splits k);
    }

    module _ (image : List ℕ) (made : HasCommitted found after (contents h1) image) where
      -- the commit writes before the extents
      is_arranged : IsArrangedFrom held found after (contents h0) image
      is_arranged = arranged_stays held found after (contents h0) (contents h1) image (opened-found (contents h0) found agrees.opens).obeys arranged_before
          (halves_agree s (all_extents after.catalogue) (contents h1) image
          (agree_fewer _ _ (contents h1) image (λ place out inside. out (within_halves s (1 - found.half.number) place (omega arith) inside)) made.elsewhere))

      named : Agree (InNamed s c) (contents h0) image
      named =
          agree_trans (InNamed s c) (contents h0) (contents h1) image
          (agree_fewer _ (InNamed s c) (contents h0) (contents h1) (λ place inside out. out.unnamed inside) (same_contents unnamed))
          (agree_fewer _ (InNamed s c) (contents h1) image (λ place inside out. (half_beside found (number-small found h0 agrees) place out).named inside) made.elsewhere)

      settles : (shape : Shape) (st : VersionState) (phase : Phase) → Near (history shape st) → StandsFor shape st phase held (contents h0) → StandsFor shape st Settled held image
      settles shape st phase near stands = law shape st phase held (contents h0) image found after near stands agrees.opens waits made.opens is_arranged named

    -- where the commit is made the store is arranged
    pub answers_named : (h2 : History) (T : Type 0) → T → (result : Result (Unit {0}) ReadFault) (found_now : Found) → OnErr result (result ≡ Err DiskFault) → OnOk result (found_now ≡ after) → OnOk result (T → IsMade found after h1 h2) →
        AnswersDue held found found_now h0 h2 result
    answers_named h2 T told (Ok value) found_now fails is done = λ _. (subst (λ f. IsArrangedFrom held found f (contents h0) (contents h2)) (sym is) (is_arranged (contents h2) (done told).kept), (done told).settled)
    answers_named h2 T told (Err fault) found_now fails is done = subst (λ (r : Result (Unit {0}) ReadFault). AnswersDue held found found_now h0 h2 r) (sym fails) tt

    stops_named : (h2 : History) (shape : Shape) (st : VersionState) → Near (history shape st) → LeavesNow (Stands shape held st) h0 → LeavesEither found after h1 h2 → LeavesSince (Stands shape held st) h0 h2
    stops_named h2 shape st near sure either =
        let now : Stands shape held st (contents h0) = sure.each (contents h0) (contents_now h0) in
        leaves_wider (Stands shape held st) (λ image stood. ⊎_elim (λ before. before) (λ made. made) stood)
        (staged_commit found (IsUnnamed s c) (are_unnamed shape held st found) agrees unnamed sure (Stands shape held st) after
        (λ image made. record { phase = Settled; so = settles image made shape st now.phase near now.so }) either.stops)

    pub opens_named : (h2 : History) → LeavesEither found after h1 h2 → IsSafeOpening held found h0 h2
    opens_named h2 either sure =
        let staged : LeavesSince (OpensWith found) h0 h1 = opens_staged found sure (IsUnnamed s c) (λ place p. p.behind) unnamed in
        leaves_both (leaves_wider (OpensSoFar held found (contents h0)) not_yet staged)
        (leaves_wider (OpensSoFar held found (contents h0))
        (λ image is. ⊎_elim (not_yet image) (λ made. record { ready = after; opens = made.opens; so = inr (is_arranged image made) }) is)
        (opens_committed found (leaves_now staged) after either.stops))

    module _ (h2 : History) where
      pub keeps_named : IsMade found after h1 h2 → LeavesEither found after h1 h2 → KeepsStates {T = Unit {0}} held h0 h2 (Ok tt)
      keeps_named done either = record {
        contents = record { each = λ shape st phase near stands. settles (contents h2) done.kept shape st phase near stands };
        stops = record { each = λ shape st near sure. stops_named h2 shape st near sure either };
      }

      pub keeps_failed : LeavesEither found after h1 h2 → KeepsStates {T = Unit {0}} held h0 h2 (Err DiskFault)
      keeps_failed either = record {
        contents = record {
          each = λ shape st phase near stands.
              ⊎_elim (λ kept. record { phase = phase; so = kept }) (λ made. record { phase = Settled; so = made })
              (either_stands phase (StandsFor shape st Settled held) found after (contents h1) (contents h2) agrees_now.opens (stands_now held shape st phase stands)
              (λ image made. settles image made shape st phase near stands) either.contents);
        };
        stops = record { each = λ shape st near sure. stops_named h2 shape st near sure either };
      }

      pub keeps_either : (T : Type 0) → T → (result : Result (Unit {0}) ReadFault) → OnErr result (result ≡ Err DiskFault) → OnOk result (T → IsMade found after h1 h2) → LeavesEither found after h1 h2 →
          KeepsStates {T = Unit {0}} held h0 h2 result
      keeps_either T told (Ok value) fails done either = keeps_named (done told) either
      keeps_either T told (Err fault) fails done either = subst (λ (r : Result (Unit {0}) ReadFault). KeepsStates {T = Unit {0}} held h0 h2 r) (sym fails) (keeps_failed either)

-- ---- what a refusal answers

pub but_refused : (fault : ReadFault) (P : Type 0) → P → ButDiskFault {T = Unit {0}} (Err fault) P
but_refused DiskFault P p = tt
but_refused (Damaged damage) P p = p
but_refused OutOfMemory P p = p

pub if_told : (T : Type 0) → T → (P : Damage → Type 0) (fault : ReadFault) → IfDamaged {T = Unit {0}} (Err fault) (λ damage. T → P damage) → IfDamaged {T = Unit {0}} (Err fault) P
if_told T told P DiskFault met = tt
if_told T told P (Damaged damage) met = met told
if_told T told P OutOfMemory met = tt

pub answers_refused : (held : ℕ) (found after : Found) (h0 h1 : History) (fault : ReadFault) → IfDamaged {T = Unit {0}} (Err fault) (λ damage. IsDamageOfDue found damage h0 h1) → AnswersDue held found after h0 h1 (Err fault)
answers_refused held found after h0 h1 DiskFault met = tt
answers_refused held found after h0 h1 (Damaged damage) met = met
answers_refused held found after h0 h1 OutOfMemory met = tt

-- ---- the commit fits

starts_kept : (es : List SplitEntry) → map (λ (e : KeptEntry). e.start) (map kept_of es) ≡ map (λ (e : SplitEntry). e.start) es
starts_kept [] = refl
starts_kept (e ∷ es) = ap (λ ns. e.start ∷ ns) (starts_kept es)

pub fits_desk : (s : Sizes) (c : Catalogue) (es : List SplitEntry) (desk : OnDesk) → IsBounded s → IsTrue (obeys s c) → c.phase ≢ Settled → HasSplits c es desk → MaySplits s c es → IsTrue (ascends (c.base + 1) c.newest (map (λ e. e.start) es)) →
    FitsArrange s c desk.filling.rows desk.filling.added desk.splits
fits_desk s c es desk bounded rules waits has may ascend =
    let fits : FitsArrange s c (last_rows (after_splits c es).volumes) (flat_map (λ (e : SplitEntry). e.added) es) (map kept_of es) =
    arrange_fits s bounded c es rules waits may (ap (ascends (c.base + 1) c.newest) (starts_kept es) ∙ ascend) in
    subst (λ rows. FitsArrange s c rows desk.filling.added desk.splits) (sym has.rows)
    (subst (λ added. FitsArrange s c (last_rows (after_splits c es).volumes) added desk.splits) (sym has.added)
    (subst (λ splits. FitsArrange s c (last_rows (after_splits c es).volumes) (flat_map (λ (e : SplitEntry). e.added) es) splits) (sym has.splits) fits))
