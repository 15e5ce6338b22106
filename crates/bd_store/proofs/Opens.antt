-- What images open with at each stop of a command.
use Rattle.std.proofs.Common.{◌≡◌, ◌∙◌, ◌≤◌, ℕ, ◌-◌, true, false, List, inl, inr, refl, subst, sym, arith, ⊎_elim, Ok}
use Rattle.bd_disk.specs.History.{History, Now, contents}
use Rattle.bd_disk.specs.Images.{Agree, AgreeBut}
use Rattle.bd_disk.specs.Made.{LeavesNow, LeavesSince, WritesNothing, WritesOnly}
use Rattle.bd_disk.proofs.AgreeLemmas.{agree_fewer, agree_sym, agree_trans}
use Rattle.bd_disk.proofs.Frames.{leaves_and, leaves_both, leaves_by_writes, leaves_now, leaves_quiet, leaves_wider, nothing_within}
use Rattle.bd_model.specs.Sizes.{extent_place}
use Rattle.bd_model.specs.declared.command.Command.{Command}
use Rattle.bd_gate.specs.Halves.{BeforeExtents}
use Rattle.bd_roll.specs.Catalogue.{all_extents}
use Rattle.bd_catalog.specs.Agreement.{Agrees, InExtents}
use Rattle.bd_catalog.specs.Opening.{Found, opened}
use Rattle.bd_catalog.specs.Steps.{HasCommitted, InOtherHalf, IsKeptOrCommitted, LeavesEither}
use Rattle.bd_catalog.proofs.Staged.{same_catalogue}
use Rattle.bd_catalog.proofs.StandingFound.{opened-found}
use Rattle.bd_volume.proofs.Beside.{half_front}
use Rattle.bd_arrange.specs.Opens.{ArrangedSoFar, HasCatalogueOf, IsSafeOpening, OpensSoFar, OpensWith}
use Rattle.bd_arrange.proofs.Moved.{arranged_stays}
use Rattle.bd_arrange.proofs.Opens.{opens_committed, opens_staged, same_both}
use Rattle.bd_store.specs.Deeds.{Deed, TakesIn, GivesBack, GivesUp, Settles, Checks, Tells, deed_of}
use Rattle.bd_store.specs.Opens.{KeepsOpening, KeepsReady, MakesNext, OpensNext, OpensOnEitherSide, OpensReady}
use Rattle.bd_store.specs.Shown.{Shown}
use Rattle.bd_store.specs.Writes.{IsUnowned, WritesFor, WritesReady, arranges}
use Rattle.bd_store.proofs.CommandEnds.{not_both}

-- ---- a store that is ready

-- nothing was written
pub opens_quiet : {found : Found} {command : Command} {end : Shown} {old new : History} → WritesNothing old new → KeepsReady found command end old new
opens_quiet {found} {command} {end} {new = new} quiet sure = leaves_wider (OpensReady found command end (contents new)) (λ image is. inl is) (leaves_quiet quiet sure)

module _ (found : Found) (command : Command) (end : Shown) {h0 h1 : History} where
  -- nothing but places behind the halves was
  pub opens_written : (Places : ℕ → Type 0) → ((place : ℕ) → Places place → extent_place found.sizes 0 ≤ place) → WritesOnly Places h0 h1 → KeepsReady found command end h0 h1
  opens_written Places behind writes sure = leaves_wider (OpensReady found command end (contents h1)) (λ image is. inl is) (opens_staged found sure Places behind writes)

  -- such places were, and then a commit was made, or failed
  pub opens_named : {h2 : History} (after : Found) → after.sizes ≡ found.sizes → MakesNext (deed_of found command) found.catalogue after.catalogue → (end.worn ≡ false → after ≡ end.found) → (LeavesNow (OpensWith found) h0 → LeavesSince (OpensWith found) h0 h1) →
      LeavesEither found after h1 h2 → KeepsReady found command end h0 h2
  opens_named {h2} after sizes made same first either sure =
      let staged : LeavesSince (OpensWith found) h0 h1 = first sure in
      leaves_both (leaves_wider (OpensReady found command end (contents h2)) (λ image is. inl is) staged)
      (leaves_wider (OpensReady found command end (contents h2))
      (λ image is. ⊎_elim (λ old. inl old) (λ (there : HasCommitted found after (contents h1) image). inr (record { next = after; opens = there.opens; sizes = sizes; made = made; extents = behind image there; same = same })) is)
      (opens_committed found (leaves_now staged) after either.stops))
    where
      -- neither writes behind the halves
      but_front : (image : List ℕ) → AgreeBut (InOtherHalf found) (contents h1) image → AgreeBut (BeforeExtents found.sizes) (contents h1) image
      but_front image agree = agree_fewer _ _ (contents h1) image (λ place behind inside. behind (half_front found.sizes (1 - found.half.number) place (omega arith) inside)) agree

      now : IsKeptOrCommitted found after (contents h1) (contents h2) → AgreeBut (BeforeExtents found.sizes) (contents h1) (contents h2)
      now = ⊎_elim (λ kept. but_front (contents h2) kept.elsewhere) (λ there. but_front (contents h2) there.elsewhere)

      behind : (image : List ℕ) → HasCommitted found after (contents h1) image → AgreeBut (BeforeExtents found.sizes) (contents h2) image
      behind image there = agree_trans _ (contents h2) (contents h1) image (agree_sym _ (contents h1) (contents h2) (now either.contents)) (but_front image there.elsewhere)

-- ---- any store

-- a store that isn't arranged
pub opens_unarranged : {held : ℕ} {found : Found} {command : Command} {end : Shown} {old new : History} → KeepsReady found command end old new → KeepsOpening held found command end old new
opens_unarranged {held} {found} {command} {end} {old} {new} keeps sure = leaves_wider (OpensOnEitherSide held found command end (contents old) (contents new))
    (λ image is. record { ready = found; so = inl (record { sizes = refl; catalogue = refl }); rests = λ _. record { sizes = refl; catalogue = refl }; opens = is })
    (keeps sure)

-- the sizes stay
sizes_so_far : {held : ℕ} {found ready : Found} {old image : List ℕ} → ArrangedSoFar held found ready old image → ready.sizes ≡ found.sizes
sizes_so_far so = ⊎_elim (λ same. same.sizes) (λ arranged. arranged.sizes) so

-- and so it came where the same catalogue is found
same_so_far : {held : ℕ} {found ready again : Found} {old image : List ℕ} → HasCatalogueOf ready again → ArrangedSoFar held found ready old image → ArrangedSoFar held found again old image
same_so_far same so = ⊎_elim
    (λ as_found. inl (same_both as_found same))
    (λ is. inr (record { entries = is.entries; newest = is.newest; splits = is.splits; turns = is.turns; sizes = same.sizes ∙ is.sizes; catalogue = same.catalogue ∙ is.catalogue }))
    so

-- Where the store in memory goes on, each image opens with its catalogue.
pub opens_on : {held : ℕ} {found after : Found} {command : Command} {end : Shown} {old : List ℕ} {new : History} → after.sizes ≡ found.sizes → Agrees after new → LeavesNow (OpensOnEitherSide held found command end old (contents new)) new → LeavesNow (OpensWith after) new
opens_on {held} {found} {after} {command} {end} {old} {new} sizes agrees within = record { each = λ image now. one image now (within.each image now) } where
  as_after : (image : List ℕ) → Now new image → (again : Found) → opened image ≡ Ok again → again.sizes ≡ after.sizes → OpensWith after image
  as_after image now again opens same = record {
    again = again;
    opens = opens;
    same = record { sizes = same; catalogue = same_catalogue (contents new) image after again agrees.opens opens same (agrees.sure.each image now) };
  }

  one : (image : List ℕ) → Now new image → OpensOnEitherSide held found command end old (contents new) image → OpensWith after image
  one image now is =
      let stay : is.ready.sizes ≡ after.sizes = sizes_so_far is.so ∙ sym sizes in
      ⊎_elim
      (λ (same : OpensWith is.ready image). as_after image now same.again same.opens (same.same.sizes ∙ stay))
      (λ (next : OpensNext is.ready command end (contents new) image). as_after image now next.next next.opens (next.sizes ∙ stay))
      is.opens

-- ---- a store that is made ready

-- until then
pub opens_before : {held : ℕ} {found : Found} {command : Command} {end : Shown} {h0 h1 : History} (now : List ℕ) → (arranges found command ≡ false → WritesNothing h0 h1) → IsSafeOpening held found h0 h1 → LeavesNow (OpensWith found) h0 →
    LeavesSince (OpensOnEitherSide held found command end (contents h0) now) h0 h1
opens_before {held} {found} {command} {end} {h0} {h1} now quiet safe sure =
    elim (arranges found command) as (λ b. arranges found command ≡ b → LeavesSince Leaves h0 h1) [
      | true ↦ λ first. leaves_wider Leaves (λ image (is : OpensSoFar held found (contents h0) image). record {
        ready = is.ready;
        so = is.so;
        rests = λ no. not_both first no;
        opens = inl (record { again = is.ready; opens = is.opens; same = record { sizes = refl; catalogue = refl } });
      }) (safe sure)
      | false ↦ λ no. leaves_wider Leaves (λ image is. record { ready = found; so = inl itself; rests = λ _. itself; opens = inl is }) (leaves_quiet (quiet no) sure)
    ] refl
  where
    Leaves : List ℕ → Type 0
    Leaves = OpensOnEitherSide held found command end (contents h0) now

    itself : HasCatalogueOf found found
    itself = record { sizes = refl; catalogue = refl }

-- no owner's bytes are written of a store that is ready
pub only_unowned : (deed : Deed) (found : Found) {old new : History} → WritesFor deed found old new → WritesOnly (IsUnowned found) old new
only_unowned (TakesIn source) found writes = writes
only_unowned (GivesBack v target) found writes = nothing_within _ writes
only_unowned (GivesUp count) found writes = writes
only_unowned Settles found writes = nothing_within _ writes
only_unowned Checks found writes = nothing_within _ writes
only_unowned Tells found writes = nothing_within _ writes

-- each image at that moment has its catalogue, so far as an arranging came
pub opens_ready : {held : ℕ} {found mid : Found} {h0 h1 : History} → mid.sizes ≡ found.sizes → Agrees mid h1 → IsSafeOpening held found h0 h1 → LeavesNow (OpensWith found) h0 → LeavesNow (λ image. OpensWith mid image × ArrangedSoFar held found mid (contents h0) image) h1
opens_ready {held} {found} {mid} {h0} {h1} sizes agrees safe sure = record { each = mid_now } where
  mid_now : (image : List ℕ) → Now h1 image → OpensWith mid image × ArrangedSoFar held found mid (contents h0) image
  mid_now image now =
      let is : OpensSoFar held found (contents h0) image = (leaves_now (safe sure)).each image now in
      let same : is.ready.sizes ≡ mid.sizes = sizes_so_far is.so ∙ sym sizes in
      let catalogue = same_catalogue (contents h1) image mid is.ready agrees.opens is.opens same (agrees.sure.each image now) in
      (record { again = is.ready; opens = is.opens; same = record { sizes = same; catalogue = catalogue } }, same_so_far (record { sizes = sym same; catalogue = sym catalogue }) is.so)

-- and then
pub opens_behind : {held : ℕ} {found mid : Found} {command : Command} {end : Shown} {h0 h1 h2 : History} → Agrees found h0 → mid.sizes ≡ found.sizes → (arranges found command ≡ false → mid ≡ found) → (arranges found command ≡ false → WritesNothing h0 h1) → Agrees mid h1 →
    IsSafeOpening held found h0 h1 → WritesReady mid command h1 h2 → KeepsReady mid command end h1 h2 → KeepsOpening held found command end h0 h2
opens_behind {held} {found} {mid} {command} {end} {h0} {h1} {h2} before sizes rests quiet agrees safe writes keeps sure =
    leaves_both (opens_before (contents h2) quiet safe sure)
    (leaves_wider (OpensOnEitherSide held found command end (contents h0) (contents h2))
    (λ image is. record { ready = mid; so = is.1; rests = λ no. subst (HasCatalogueOf found) (sym (rests no)) (record { sizes = refl; catalogue = refl }); opens = is.0 })
    (leaves_and (keeps (record { each = λ image now. (mid_now image now).0 }))
    (leaves_by_writes (ArrangedSoFar held found mid (contents h0)) (only_unowned (deed_of mid command) mid writes) (λ from image now agree. still_so_far from image (agree_fewer _ _ from image (λ place owned unowned. unowned.owners owned) agree) (mid_now from now).1))))
  where
    mid_now : (image : List ℕ) → Now h1 image → OpensWith mid image × ArrangedSoFar held found mid (contents h0) image
    mid_now = (opens_ready sizes agrees safe sure).each

    -- and so far it came where each owner's extents have the same bytes
    still_so_far : (from image : List ℕ) → Agree (InExtents mid.sizes (all_extents mid.catalogue)) from image → ArrangedSoFar held found mid (contents h0) from → ArrangedSoFar held found mid (contents h0) image
    still_so_far from image agree so =
        ⊎_elim (λ same. inl same) (λ arranged. inr (arranged_stays held found mid (contents h0) from image (opened-found (contents h0) found before.opens).obeys arranged agree)) so
