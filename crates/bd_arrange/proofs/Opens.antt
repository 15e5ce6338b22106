-- What images open with behind writes that nothing names, and behind a commit.
use Rattle.std.proofs.Common.{◌⊎◌, ◌∙◌, ◌≤◌, ℕ, List, inl, inr, subst, arith, ⊎_elim}
use Rattle.bd_disk.specs.History.{History, contents}
use Rattle.bd_disk.specs.Made.{LeavesNow, LeavesSince, WritesOnly}
use Rattle.bd_disk.proofs.AgreeLemmas.{agree_fewer}
use Rattle.bd_disk.proofs.Frames.{leaves_by_writes, leaves_wider}
use Rattle.bd_model.specs.Sizes.{extent_place}
use Rattle.bd_catalog.specs.Opening.{Found}
use Rattle.bd_catalog.specs.Steps.{HasCommitted, IsOldOrCommitted}
use Rattle.bd_catalog.proofs.AgreeLemmas.{InFront, opens_again}
use Rattle.bd_arrange.specs.Opens.{HasCatalogueOf, OpensSoFar, OpensWith}

pub same_both : {a b c : Found} → HasCatalogueOf a b → HasCatalogueOf b c → HasCatalogueOf a c
same_both first second = record { sizes = second.sizes ∙ first.sizes; catalogue = second.catalogue ∙ first.catalogue }

-- nothing was arranged yet
pub not_yet : {held : ℕ} {found : Found} {old : List ℕ} (image : List ℕ) → OpensWith found image → OpensSoFar held found old image
not_yet image is = record { ready = is.again; opens = is.opens; so = inl is.same }

module _ (found : Found) {h0 h1 : History} (sure : LeavesNow (OpensWith found) h0) where
  -- written behind the halves
  pub opens_staged : (Places : ℕ → Type 0) → ((place : ℕ) → Places place → extent_place found.sizes 0 ≤ place) → WritesOnly Places h0 h1 → LeavesSince (OpensWith found) h0 h1
  opens_staged Places behind writes = leaves_by_writes (OpensWith found) writes (λ before image was agree.
      let is : OpensWith found before = sure.each before was in
      record {
        again = is.again;
        opens = opens_again is.again before image is.opens (agree_fewer _ (InFront is.again.sizes) before image
            (λ place front inside. omega (arith, subst (λ s. InFront s place) is.same.sizes front, behind place inside)) agree);
        same = is.same;
      })

  -- a commit of this found it, or made what it names
  pub opens_committed : (after : Found) → LeavesSince (IsOldOrCommitted found after h0) h0 h1 → LeavesSince (λ image. OpensWith found image ⊎ HasCommitted found after (contents h0) image) h0 h1
  opens_committed after stops = leaves_wider _ (λ image either. ⊎_elim
      (λ keeps.
      let was : OpensWith found keeps.before = sure.each keeps.before keeps.was in
      let again = keeps.opens was.again was.opens was.same.sizes in
      inl (record { again = again.0; opens = again.1; same = same_both was.same (record { sizes = again.2; catalogue = again.3 }) }))
      (λ made. inr made) either) stops
