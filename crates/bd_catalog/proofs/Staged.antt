-- What is left where something is written beside all that is named, and then named by one commit.
use Rattle.std.proofs.Common.{◌≡◌, ◌⊎◌, ℕ, ◌-◌, ◌≤◌, arith, List, refl, sym, ◌∙◌, ap, subst, inl, inr, ⊎_elim, Some}
use Rattle.std.specs.Prelude.{Ok, Contains}
use Rattle.std.proofs.lemmas.List.Elements.{All-contains}
use Rattle.bd_disk.specs.History.{History, contents}
use Rattle.bd_disk.specs.Images.{InRange, Agree, AgreeBut}
use Rattle.bd_disk.specs.Made.{LeavesNow, LeavesSince, WritesOnly}
use Rattle.bd_disk.proofs.AgreeLemmas.{agree_fewer, agree_sym}
use Rattle.bd_disk.proofs.Frames.{contents_now, leaves_both, leaves_by_writes, leaves_now, leaves_wider, same_contents, still_sure, sure_same}
use Rattle.bd_model.specs.Sizes.{Sizes, sizes_of, extent_place}
use Rattle.bd_model.specs.State.{VersionState}
use Rattle.bd_model.specs.declared.layout.Phase.{Phase}
use Rattle.bd_model.specs.declared.shape.Shape.{Shape}
use Rattle.bd_model.proofs.ListLemmas.{same_some}
use Rattle.bd_space.specs.Allotment.{Allotment, IsFree, IsTaken, TakenExactly}
use Rattle.bd_space.specs.declared.space.Use.TheVariants.{Free, Taken}
use Rattle.bd_gate.specs.Halves.{Half, InHalves, half_at, newest_half, payload_of}
use Rattle.bd_gate.proofs.Kept.{SameHalf, half_of_standing, standing_of_halves, within_halves}
use Rattle.bd_catalog.specs.Agreement.{Agrees, InExtents}
use Rattle.bd_roll.specs.Catalogue.{Catalogue, all_extents}
use Rattle.bd_catalog.specs.Opening.{Found, opened}
use Rattle.bd_roll.specs.Rules.{catalogue_of}
use Rattle.bd_catalog.specs.Standing.{StandsFor, Stands}
use Rattle.bd_catalog.specs.Steps.{HasCommitted, IsKeptOrCommitted, IsOldOrCommitted, KeepsCatalogue}
use Rattle.bd_catalog.proofs.AgreeLemmas.{InFront, one_extent, opens_again}
use Rattle.bd_catalog.proofs.StandingLemmas.{InStore, found_once, halves_agree, stands_for_agrees, stands_for_opened, stands_opened}
use Rattle.bd_catalog.proofs.StandingFound.{IsFound, opened-found}

-- ---- one catalogue in two images

-- Images that open with the same sizes and agree on both halves have the same catalogue. Of an image at entry the halves
-- alone are sure, so that its superblock isn't known to be that of the contents.
pub same_catalogue : (old new : List ℕ) (f g : Found) → opened old ≡ Ok f → opened new ≡ Ok g → g.sizes ≡ f.sizes → Agree (InHalves f.sizes) old new → g.catalogue ≡ f.catalogue
same_catalogue old new f g opens opens_new sizes agree =
    let is : IsFound old f = opened-found old f opens in
    let js : IsFound new g = opened-found new g opens_new in
    let half : SameHalf f.sizes f.half.number old new = half_of_standing f.sizes f.half.number old new (standing_of_halves f.sizes old new agree) is.newest in
    let number : f.half.number ≡ g.half.number = same_some (sym half.newest ∙ ap (λ s. newest_half s new) (sym sizes) ∙ js.newest) in
    let there : half_at f.sizes new f.half.number ≡ g.half = (λ i. half_at (sym sizes i) new (number i)) ∙ sym js.half in
    let size : g.half.length ≡ f.half.length = ap (λ (h : Half). h.length) (sym there) ∙ half.payload_length ∙ sym (ap (λ (h : Half). h.length) is.half) in
    let bytes : payload_of f.sizes g.half new ≡ payload_of f.sizes f.half old =
    half.payload g.half (sym number) (omega (arith, size, is.fits))
    ∙ (λ i. payload_of f.sizes (record f.half { number = sym number i; length = size i }) old) in
    same_some (sym js.catalogue ∙ (λ i. catalogue_of (sizes i) (payload_of (sizes i) g.half new)) ∙ ap (catalogue_of f.sizes) bytes ∙ is.catalogue)

-- ---- places that nothing named lies in

-- Such places lie behind the halves, and an image of this catalogue that stands for the state does so whatever they hold.
pub record AreUnnamed (shape : Shape) (held : ℕ) (st : VersionState) (found : Found) (Places : ℕ → Type 0) : Type 0 where
  pub behind : (place : ℕ) → Places place → extent_place found.sizes 0 ≤ place
  pub each : (phase : Phase) (image other : List ℕ) (f : Found) → opened image ≡ Ok f → f.sizes ≡ found.sizes → f.catalogue ≡ found.catalogue → AgreeBut Places image other →
      StandsFor shape st phase held image → StandsFor shape st phase held other

-- a place in an extent that no owner has
pub record InUnowned (s : Sizes) (c : Catalogue) (place : ℕ) : Type 0 where
  pub extent : ℕ
  pub unowned : Contains (all_extents c) extent → ⊥
  pub within : InRange (extent_place s extent) s.extent place

-- an extent that is free where those that are owned are taken
pub free_unowned : (space : Allotment) (c : Catalogue) (extent : ℕ) → TakenExactly space (all_extents c) → IsFree space extent → Contains (all_extents c) extent → ⊥
free_unowned space c extent owners free has =
    let taken : IsTaken space extent = All-contains (IsTaken space) (all_extents c) extent owners.taken has in
    let one : Some Free ≡ Some Taken = sym free ∙ taken in
    cc

-- no state names such a place
pub unowned_unnamed : (shape : Shape) (held : ℕ) (st : VersionState) (found : Found) → AreUnnamed shape held st found (InUnowned found.sizes found.catalogue)
unowned_unnamed shape held st found = record {
  behind = λ place p. omega (arith, p.within.0);
  each = λ phase image other f opens sizes catalogue agree stands.
      stands_for_agrees opens
      (agree_fewer _ (InStore f) image other (λ place store p.
      ⊎_elim
      (λ front. absurd (omega (arith, p.within.0, subst (λ s. InFront s place) sizes front)))
      (λ (owned : InExtents f.sizes (all_extents f.catalogue) place).
      let within : InRange (extent_place found.sizes owned.extent) found.sizes.extent place = subst (λ s. InRange (extent_place s owned.extent) s.extent place) sizes owned.within in
      p.unowned (subst (λ e. Contains (all_extents found.catalogue) e) (one_extent found.sizes owned.extent p.extent place within p.within) (subst (λ c. Contains (all_extents c) owned.extent) catalogue owned.among)))
      store) agree) stands;
}

-- ---- the catalogue agrees with the disk after such writes

pub agrees_staged : (found : Found) (Places : ℕ → Type 0) {h0 h1 : History} → ((place : ℕ) → Places place → extent_place found.sizes 0 ≤ place) → Agrees found h0 → WritesOnly Places h0 h1 → Agrees found h1
agrees_staged found Places {h0} {h1} behind agrees writes =
    let same : AgreeBut Places (contents h0) (contents h1) = same_contents writes in
    record {
      opens = opens_again found (contents h0) (contents h1) agrees.opens (agree_fewer _ (InFront found.sizes) (contents h0) (contents h1) (λ place front inside. omega (arith, front, behind place inside)) same);
      sure = sure_same (contents h1) (agree_sym (InHalves found.sizes) (contents h0) (contents h1) (agree_fewer _ (InHalves found.sizes) (contents h0) (contents h1) (λ place half inside. omega (arith, half.1, behind place inside)) same))
          (still_sure (InHalves found.sizes) (contents h0) (λ place half inside. omega (arith, half.1, behind place inside)) writes agrees.sure);
    }

-- ---- written beside what is named

module _ {shape : Shape} {held : ℕ} {st : VersionState} (found : Found) (Places : ℕ → Type 0) {h0 h1 : History} (unnamed : AreUnnamed shape held st found Places) (agrees : Agrees found h0) (writes : WritesOnly Places h0 h1) where
  -- the contents stand for the state as before
  pub staged_stands : (phase : Phase) → StandsFor shape st phase held (contents h0) → StandsFor shape st phase held (contents h1)
  staged_stands phase stands = unnamed.each phase (contents h0) (contents h1) found agrees.opens refl refl (same_contents writes) stands

  module _ (sure : LeavesNow (Stands shape held st) h0) where
    sizes : found.sizes ≡ sizes_of shape
    sizes =
        let now : Stands shape held st (contents h0) = sure.each (contents h0) (contents_now h0) in
        ap (λ (f : Found). f.sizes) (found_once (contents h0) found now.so.found agrees.opens now.so.opens) ∙ now.so.sizes

    -- so does every image, whatever stop comes
    pub staging : LeavesSince (Stands shape held st) h0 h1
    staging = leaves_by_writes (Stands shape held st) writes (λ before image was agree.
        let stood : Stands shape held st before = sure.each before was in
        let f = stood.so.found in
        let same : f.sizes ≡ found.sizes = stood.so.sizes ∙ sym sizes in
        record {
          phase = stood.phase;
          so = unnamed.each stood.phase before image f stood.so.opens same (same_catalogue (contents h0) before found f agrees.opens stood.so.opens same (agrees.sure.each before was)) agree stood.so;
        })

    -- and an image in which a commit left the catalogue
    pub kept_stands : (image : List ℕ) → KeepsCatalogue found h1 image → Stands shape held st image
    kept_stands image keeps =
        let stood : Stands shape held st keeps.before = (leaves_now staging).each keeps.before keeps.was in
        let f = stood.so.found in
        let same : f.sizes ≡ found.sizes = stood.so.sizes ∙ sym sizes in
        let again = keeps.opens f stood.so.opens same in
        let halves : AgreeBut (InHalves f.sizes) keeps.before image =
        agree_fewer _ _ keeps.before image (λ place out inside. out (subst (λ s. InHalves s place) (sym same) (within_halves found.sizes (1 - found.half.number) place (omega arith) inside))) keeps.elsewhere in
        stands_opened f again.0 stood.so.opens again.1 again.2 again.3 (halves_agree f.sizes (all_extents f.catalogue) keeps.before image halves) stood

    -- Named by a commit: at every moment an image stands for the state before, or it is what the commit made.
    pub staged_commit : (Made : List ℕ → Type 0) (after : Found) {h2 : History} → ((image : List ℕ) → HasCommitted found after (contents h1) image → Made image) →
        LeavesSince (IsOldOrCommitted found after h1) h1 h2 → LeavesSince (λ image. Stands shape held st image ⊎ Made image) h0 h2
    staged_commit Made after makes stops =
        leaves_both (leaves_wider _ (λ image is. inl is) staging)
        (leaves_wider _ (λ image either. ⊎_elim (λ keeps. inl (kept_stands image keeps)) (λ made. inr (makes image made)) either) stops)

-- ---- the contents and the images once a commit has ended

-- after a commit that may have failed
pub either_stands : {shape : Shape} {held : ℕ} {st : VersionState} (phase : Phase) (Made : List ℕ → Type 0) (found after : Found) (old image : List ℕ) → opened old ≡ Ok found → StandsFor shape st phase held old →
    ((new : List ℕ) → HasCommitted found after old new → Made new) → IsKeptOrCommitted found after old image → StandsFor shape st phase held image ⊎ Made image
either_stands phase Made found after old image opens stands makes either =
    ⊎_elim
    (λ kept. inl (stands_for_opened found kept.again opens kept.opens kept.sizes kept.catalogue
    (halves_agree found.sizes (all_extents found.catalogue) old image
    (agree_fewer _ _ old image (λ place out inside. out (within_halves found.sizes (1 - found.half.number) place (omega arith) inside)) kept.elsewhere)) stands))
    (λ made. inr (makes image made)) either
