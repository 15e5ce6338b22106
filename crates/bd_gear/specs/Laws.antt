-- What holds of every chunker, whatever the pieces in which it was fed.
use Rattle.std.specs.Prelude.{◌≡◌, ℕ, ◌^◌, ◌<◌, ◌≤◌, List, [], ◌++◌, length, IsFalse}
use Rattle.bd_model.specs.Chunks.{Cut, chunks, chunks_after}
use Rattle.bd_gear.specs.Rolling.{rolled_on}
use Rattle.bd_gear.specs.Chunking.{Chunking}
use Rattle.bd_gear.specs.Feeding.{HasFed, place_after}

-- The chunks taken are a front of those of the stream, and until the end of input of those of every stream that begins with
-- it. They are all of them where nothing is left.
pub record TheTakenAreAFront : Type 0 where
  pub now : (cut : Cut) (s : List ℕ) (taken : List (List ℕ)) (c : Chunking) → HasFed cut s taken c → chunks cut s ≡ taken ++ chunks_after cut s (place_after taken)
  pub later : (cut : Cut) (s more : List ℕ) (taken : List (List ℕ)) (c : Chunking) → HasFed cut s taken c → IsFalse c.finished →
      chunks cut (s ++ more) ≡ taken ++ chunks_after cut (s ++ more) (place_after taken)
  pub all : (cut : Cut) (s : List ℕ) (taken : List (List ℕ)) (c : Chunking) → HasFed cut s taken c → c.held ≡ [] → taken ≡ chunks cut s

-- After 64 bytes the hash has forgotten what it was before them.
abbrev pub TheHashForgets : Type 0
TheHashForgets = (hash other : ℕ) (bytes : List ℕ) → hash < 2 ^ 64 → other < 2 ^ 64 → 64 ≤ length bytes → rolled_on hash bytes ≡ rolled_on other bytes

-- Two chunkers of one cut that were fed one stream, each in pieces of its own, gave the same chunks.
abbrev pub PiecesMakeNoDifference : Type 0
PiecesMakeNoDifference = (cut : Cut) (s : List ℕ) (taken others : List (List ℕ)) (c d : Chunking) →
    HasFed cut s taken c → HasFed cut s others d → c.held ≡ [] → d.held ≡ [] → taken ≡ others
