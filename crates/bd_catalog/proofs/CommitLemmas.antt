-- What the commit of a catalogue makes of the disk, from what the commit of its frame does.
use Rattle.std.proofs.Common.{◌≡◌, ⊎_elim, ℕ, ◌+◌, ◌-◌, ◌%◌, ◌≤◌, List, length, sym, ◌∙◌, ap, subst, arith, IfSome}
use Rattle.std.specs.Prelude.{Ok, IsTrue}
use mathlib.Core.Logic.{inl, inr}
use Rattle.bd_disk.specs.Images.{Agree, AgreeBut}
use Rattle.bd_disk.specs.History.{History, clock, contents, Now, Since}
use Rattle.bd_disk.specs.Made.{IsSettled, LeavesNow, LeavesSince, Makes, WritesOnly}
use Rattle.bd_disk.proofs.AgreeLemmas.{agree_fewer}
use Rattle.bd_disk.proofs.Frames.{contents_now, leaves_now, made_none, same_contents, same_since, settled_sure}
use Rattle.bd_model.specs.Sizes.{payload_room}
use Rattle.bd_gate.specs.Halves.{Half, half_at, newest_half, is_open, turn_at, log_place, InHalf, InHalves}
use Rattle.bd_gate.specs.Standing.{SameStanding, IsOlderHalf, IsCommitted, next_turn}
use Rattle.bd_gate.specs.Standing.{IsOldHalfOrCommitted as IsOldOrFrame}
use Rattle.bd_gate.proofs.Newest.{other_below}
use Rattle.bd_gate.proofs.Kept.{beside_newest, turn_after, standing_of_halves, within_halves, superblock_apart}
use Rattle.bd_gate.proofs.Committed.{FindsPayload, committed_payload}
use Rattle.bd_catalog.specs.Agreement.{Agrees}
use Rattle.bd_roll.specs.Catalogue.{Catalogue}
use Rattle.bd_catalog.specs.Opening.{Found, opened}
use Rattle.bd_roll.specs.Rules.{obeys, catalogue_of}
use Rattle.bd_roll.specs.Spelling.{spelled}
use Rattle.bd_catalog.specs.Steps.{catalogue_calls, committed, frame_beside, InOtherHalf, IsKeptOrCommitted, IsMade, IsOldOrCommitted, HasCommitted, KeepsCatalogue, LeavesBeside, LeavesEither, StopsBeside}
use Rattle.bd_catalog.proofs.AgreeLemmas.{InSuperblock, opens_with, same_standing_opens}
use Rattle.bd_roll.proofs.DecodeLemmas.{catalogue_of-spelled}
use Rattle.bd_roll.proofs.Lengths.{length-spelled, payload_room-small}
use Rattle.bd_roll.proofs.RuleLemmas.{IsBounded}
use Rattle.bd_catalog.proofs.StandingFound.{IsFound, newest_by-small, opened-found}

-- ---- the half that isn't the newest

module _ (found : Found) (h : History) (agrees : Agrees found h) where
  is : IsFound (contents h) found
  is = opened-found (contents h) found agrees.opens

  -- the newest half is one of the two
  pub number-small : found.half.number ≤ 1
  number-small =
      let image = contents h in
      let small : IfSome (newest_half found.sizes image) (λ k. k ≤ 1) = newest_by-small (is_open found.sizes image 0) (turn_at found.sizes image 0) (is_open found.sizes image 1) (turn_at found.sizes image 1) in
      subst (λ o. IfSome o (λ k. k ≤ 1)) is.newest small

  pub other-beside : IsOlderHalf found.sizes (1 - found.half.number) found.half.other_open h
  other-beside = beside_newest found.sizes found.half (made_none _ h) agrees.sure is.newest is.half number-small

  pub other-next : (found.half.turn + 1) % 3 ≡ next_turn found.sizes (1 - found.half.number) (contents h)
  other-next = turn_after found.sizes found.half (made_none _ h) is.half number-small

  module _ (c : Catalogue) (bounded : IsBounded found.sizes) (rules : IsTrue (obeys found.sizes c)) where
    -- an opening finds the catalogue after the commit of its frame
    opens-committed : (image : List ℕ) → IsCommitted found.sizes (1 - found.half.number) (frame_beside found.half c) (contents h) image → opened image ≡ Ok (committed found c)
    opens-committed image frame =
        let s = found.sizes in
        let k = 1 - found.half.number in
        let fits : length (spelled c) ≤ payload_room s = length-spelled s bounded c rules in
        let finds : FindsPayload s k ((found.half.turn + 1) % 3) (spelled c) image =
        committed_payload s k ((found.half.turn + 1) % 3) (spelled c) (contents h) image (other_below found.half.number) (omega (arith, fits, payload_room-small s bounded)) other-beside.newest frame in
        let agree : Agree InSuperblock (contents h) image =
        agree_fewer (λ place. InHalf s k place → ⊥) InSuperblock (contents h) image (λ place lt inside. superblock_apart s place lt (within_halves s k place (other_below found.half.number) inside)) frame.elsewhere in
        let size : (half_at s image k).length ≡ length (spelled c) = ap (λ (half : Half). half.length) finds.half in
        opens_with (contents h) image agree found k c agrees.opens finds.newest (omega (arith, size, fits)) (ap (catalogue_of s) finds.bytes ∙ catalogue_of-spelled s bounded c rules)
        ∙ ap (λ (half : Half). Ok (record { sizes = s; half = half; catalogue = c; log_end = log_place s half })) finds.half

    has-committed : (image : List ℕ) → IsCommitted found.sizes (1 - found.half.number) (frame_beside found.half c) (contents h) image → HasCommitted found (committed found c) (contents h) image
    has-committed image frame = record { opens = opens-committed image frame; elsewhere = frame.elsewhere }

    -- it stands there, whatever stop comes now
    agrees-committed : (later : History) → LeavesNow (IsCommitted found.sizes (1 - found.half.number) (frame_beside found.half c) (contents h)) later → IsSettled later → Agrees (committed found c) later
    agrees-committed later done settled = record {
      opens = opens-committed (contents later) (done.each (contents later) (contents_now later));
      sure = settled_sure (InHalves found.sizes) settled;
    }

    -- an image with the same newest half keeps the catalogue
    keeps : (later : History) (image : List ℕ) → WritesOnly (InOtherHalf found) h later → Since later (clock h) image → SameStanding found.sizes (contents h) image → KeepsCatalogue found h image
    keeps later image writes since same =
        let s = found.sizes in
        let k = 1 - found.half.number in
        let past : (before : List ℕ) × Now h before × AgreeBut (InOtherHalf found) before image = same_since image writes since in
        let before = past.0 in
        let stood : SameStanding s (contents h) before = standing_of_halves s (contents h) before (agrees.sure.each before past.1) in
        let agree : Agree InSuperblock before image =
        agree_fewer (λ place. InHalf s k place → ⊥) InSuperblock before image (λ place lt inside. superblock_apart s place lt (within_halves s k place (other_below found.half.number) inside)) past.2 in
        record {
          before = before;
          was = past.1;
          elsewhere = past.2;
          opens = λ old opens sizes.
              same_standing_opens old before image opens agree (subst (λ t. SameStanding t before image) (sym sizes) (same ∙ sym stood));
        }

    -- a stop within the commit of the frame leaves the old catalogue or the whole commit
    stops-committed : (later : History) → WritesOnly (InOtherHalf found) h later →
        LeavesSince (IsOldOrFrame found.sizes (1 - found.half.number) (frame_beside found.half c) (contents h)) h later →
        LeavesSince (IsOldOrCommitted found (committed found c) h) h later
    stops-committed later writes leaves = record {
      made = leaves.made;
      each = λ image since. ⊎_elim (λ same. inl (keeps later image writes since same)) (λ frame. inr (has-committed image frame)) (leaves.each image since);
    }

    -- the contents have the old catalogue or the new one
    either-committed : (later : History) → WritesOnly (InOtherHalf found) h later →
        LeavesSince (IsOldOrFrame found.sizes (1 - found.half.number) (frame_beside found.half c) (contents h)) h later →
        IsKeptOrCommitted found (committed found c) (contents h) (contents later)
    either-committed later writes leaves =
        let s = found.sizes in
        let k = 1 - found.half.number in
        let image = contents later in
        let past : AgreeBut (InOtherHalf found) (contents h) image = same_contents writes in
        let agree : Agree InSuperblock (contents h) image =
        agree_fewer (λ place. InHalf s k place → ⊥) InSuperblock (contents h) image (λ place lt inside. superblock_apart s place lt (within_halves s k place (other_below found.half.number) inside)) past in
        ⊎_elim
        (λ same. let again = same_standing_opens found (contents h) image agrees.opens agree same in inl (record { again = again.0; opens = again.1; sizes = again.2; catalogue = again.3; elsewhere = past }))
        (λ frame. inr (has-committed image frame))
        ((leaves_now leaves).each image (contents_now later))

    -- what a commit leaves at every answer, and what one did that answered Ok
    pub leaves-either : (later : History) → WritesOnly (InOtherHalf found) h later → StopsBeside found.sizes found.half c h later → LeavesEither found (committed found c) h later
    leaves-either later writes leaves = record { stops = stops-committed later writes leaves; contents = either-committed later writes leaves }

    pub is-made : (later : History) → Makes (catalogue_calls found c) h later → LeavesBeside found.sizes found.half c h later → IsSettled later → IsMade found (committed found c) h later
    is-made later calls done settled = record {
      calls = calls;
      kept = has-committed (contents later) (done.each (contents later) (contents_now later));
      agrees = agrees-committed later done settled;
      settled = settled;
    }
