-- The state of the version machine: whole streams, under the numbers with which they were backed up.
use Rattle.std.specs.Prelude.{◌≡◌, ◌⊎◌, ℕ, ◌+◌, ◌-◌, ◌<◌, ◌≤◌, List, [], ◌∷◌, map, length, slice_index_or}
use Rattle.bd_model.specs.declared.shape.Shape.{Shape}
use Rattle.bd_model.specs.declared.layout.Phase.{Phase}
use Rattle.bd_model.specs.declared.layout.Phase.TheVariants.{Settled, Waiting}
use Rattle.bd_model.specs.Chunks.{Cut, chunks}
use Rattle.bd_model.specs.History.{VersionHistory, newest, retained}

-- a version as it was backed up
pub record Version : Type 0 where
  pub stream : List ℕ

-- the version of this stream
abbrev pub plain : List ℕ → Version
plain stream = record { stream = stream }

-- the versions backed up since the store was last empty, the oldest first: the first of them has the number base + 1,
-- and the first `expired` of them are given up. Their streams stay here; a store keeps nothing of them
pub record VersionState : Type 0 where
  pub base : ℕ
  pub versions : List Version
  pub expired : ℕ

-- the state of a store into which nothing was ever backed up
abbrev pub empty : VersionState
empty = record { base = 0; versions = []; expired = 0 }

-- the last number that a version can have
abbrev pub last_number : ℕ
last_number = 4294967295

-- some version is retained, or there is none at all; and every number is one that a version can have
pub record IsState (s : VersionState) : Type 0 where
  pub some : (s.expired < length s.versions) ⊎ ((s.versions ≡ []) × (s.expired ≡ 0))
  pub numbered : s.base + length s.versions ≤ last_number

abbrev pub streams : VersionState → List (List ℕ)
streams s = map (λ v. v.stream) s.versions

-- the bytes of the version of this number
abbrev pub stream_of : VersionState → ℕ → List ℕ
stream_of s v = slice_index_or ([] ∷ streams s) (v - s.base) []

-- where chunks end in this shape
abbrev pub cut_of : Shape → Cut
cut_of shape = record { least = shape.min; bits = shape.bits; most = shape.max }

-- the same versions, each as the list of its chunks
abbrev pub history : Shape → VersionState → VersionHistory
history shape s = record { base = s.base; versions = map (chunks (cut_of shape)) (streams s); expired = s.expired }

-- the phases of a store with these versions: it waits only where two or more are retained, for a start that there is
abbrev pub IsPhase : VersionHistory → Phase → Type 0
IsPhase h Settled = Unit {0}
IsPhase h (Waiting cursor) = (2 ≤ retained h) × (h.base + 1 ≤ cursor) × (cursor ≤ newest h)
