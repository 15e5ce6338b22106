-- What a commit of a step makes of a catalogue in its place, and what a stop within it leaves.
use Rattle.std.specs.Prelude.{◌≡◌, ◌⊎◌, ℕ, ◌+◌, ◌-◌, ◌%◌, true, List, length, Ok}
use Rattle.bd_disk.specs.History.{Call, History, contents, Now}
use Rattle.bd_disk.specs.Images.{AgreeBut}
use Rattle.bd_disk.specs.Made.{IsSettled, LeavesSince, Makes}
use Rattle.bd_model.specs.Sizes.{Sizes}
use Rattle.bd_gate.specs.Commits.{commit_calls, frame_of}
use Rattle.bd_gate.specs.Halves.{Half, InHalf, log_place, half_of}
use Rattle.bd_gate.specs.Standing.{KeepsOrCommits, LeavesCommitted}
use Rattle.bd_roll.specs.declared.step.Step.{Step}
use Rattle.bd_roll.specs.Catalogue.{Catalogue}
use Rattle.bd_roll.specs.Spelling.{spelled}
use Rattle.bd_roll.specs.Steps.{stepped}
use Rattle.bd_catalog.specs.Agreement.{Agrees}
use Rattle.bd_catalog.specs.Opening.{Found, opened}

-- the half that a commit of so many bytes of payload makes the newest
abbrev pub next_half : Half → ℕ → Half
next_half half bytes = half_of (1 - half.number) ((half.turn + 1) % 3) bytes true

-- the frame that a commit of this catalogue writes beside this half
abbrev pub frame_beside : Half → Catalogue → List ℕ
frame_beside half c = frame_of ((half.turn + 1) % 3) (spelled c)

-- the calls of that commit
abbrev pub calls_beside : Sizes → Half → Catalogue → List Call
calls_beside s half c = commit_calls s (1 - half.number) half.other_open (frame_beside half c)

abbrev pub catalogue_calls : Found → Catalogue → List Call
catalogue_calls found c = calls_beside found.sizes found.half c

-- a stop at any moment since old leaves the newest half as it was, or the whole commit of that frame
abbrev pub StopsBeside : Sizes → Half → Catalogue → History → History → Type 0
StopsBeside s half c old new = KeepsOrCommits s (1 - half.number) (frame_beside half c) old new

-- a stop now leaves the whole commit
abbrev pub LeavesBeside : Sizes → Half → Catalogue → History → History → Type 0
LeavesBeside s half c old new = LeavesCommitted s (1 - half.number) (frame_beside half c) old new

-- another catalogue in the same place
abbrev pub with_catalogue : Found → Catalogue → Found
with_catalogue found c = record found { catalogue = c }

-- what an opening finds after a commit of this catalogue
abbrev pub committed : Found → Catalogue → Found
committed found c =
    let half : Half = next_half found.half (length (spelled c)) in
    record found { half = half; catalogue = c; log_end = log_place found.sizes half }

-- and after the commit of this step
abbrev pub after_step : Found → Step → Found
after_step found step = committed found (stepped found.catalogue step)

-- the places that a commit writes: of the half that isn't the newest
abbrev pub InOtherHalf : Found → ℕ → Type 0
InOtherHalf found place = InHalf found.sizes (1 - found.half.number) place

-- the image is one that a stop before might have left but for the half that isn't the newest, and opens with its catalogue
pub record KeepsCatalogue (found : Found) (h : History) (image : List ℕ) : Type 0 where
  pub before : List ℕ
  pub was : Now h before
  pub elsewhere : AgreeBut (InOtherHalf found) before image
  pub opens : (old : Found) → opened before ≡ Ok old → old.sizes ≡ found.sizes →
      (again : Found) × (opened image ≡ Ok again) × (again.sizes ≡ old.sizes) × (again.catalogue ≡ old.catalogue)

-- the image opens with the catalogue that was committed, and is the old contents but for that half
pub record HasCommitted (found after : Found) (old image : List ℕ) : Type 0 where
  pub opens : opened image ≡ Ok after
  pub elsewhere : AgreeBut (InOtherHalf found) old image

-- a stop within a commit leaves the old catalogue, or the whole commit
abbrev pub IsOldOrCommitted : Found → Found → History → List ℕ → Type 0
IsOldOrCommitted found after h image = KeepsCatalogue found h image ⊎ HasCommitted found after (contents h) image

-- the image has the old catalogue, and is the old contents but for the half that isn't the newest
pub record HasKept (found : Found) (old image : List ℕ) : Type 0 where
  pub again : Found
  pub opens : opened image ≡ Ok again
  pub sizes : again.sizes ≡ found.sizes
  pub catalogue : again.catalogue ≡ found.catalogue
  pub elsewhere : AgreeBut (InOtherHalf found) old image

-- the contents after a commit, which may have failed: with the old catalogue, or with the one committed
abbrev pub IsKeptOrCommitted : Found → Found → List ℕ → List ℕ → Type 0
IsKeptOrCommitted found after old image = HasKept found old image ⊎ HasCommitted found after old image

-- what a commit leaves, which may have failed
pub record LeavesEither (found after : Found) (old new : History) : Type 0 where
  -- a stop at any moment since old: the old catalogue or the new one
  pub stops : LeavesSince (IsOldOrCommitted found after old) old new
  -- and so the contents
  pub contents : IsKeptOrCommitted found after (contents old) (contents new)

-- what a commit that answered Ok did
pub record IsMade (found after : Found) (old new : History) : Type 0 where
  -- it made these calls
  pub calls : Makes (catalogue_calls found after.catalogue) old new
  -- the contents have the new catalogue, and are the old ones but for the half that wasn't the newest
  pub kept : HasCommitted found after (contents old) (contents new)
  -- the catalogue stands there whatever stop comes, as the next commit asks
  pub agrees : Agrees after new
  -- a stop leaves the contents and nothing else
  pub settled : IsSettled new
