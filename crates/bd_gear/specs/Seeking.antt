-- The search for the end of the next chunk.
use Rattle.std.specs.Prelude.{◌≡◌, ℕ, ◌≤◌, ◌<◌, Bool, ◌||◌, ◌&&◌, List, length, nat_lt, ◌==◌, IfSome, IfNone}
use Rattle.bd_model.specs.Chunks.{Cut}
use Rattle.bd_gear.specs.Rolling.{ScansTo}
use Rattle.bd_gear.specs.Chunking.{Chunking, next_given, next_len}
use Rattle.bd_gear.specs.Feeding.{HasFed, place_after}

-- The scan went on, and the first `count` bytes are the next chunk at a candidate, at the most that a chunk may have, and at
-- the end of input.
pub record Seeks (cut : Cut) (held : List ℕ) (scanned hash : ℕ) (finished : Bool) (count end : ℕ) (found : Bool) : Type 0 where
  pub candidate : Bool
  pub scan : ScansTo cut held scanned hash count end candidate
  pub found_is : found ≡ (candidate || (count == cut.most || (finished && nat_lt 0 count)))

-- the chunker has looked for its next chunk
pub record LooksOn (old new : Chunking) : Type 0 where
  pub next : (cut : Cut) (s : List ℕ) (taken : List (List ℕ)) → HasFed cut s taken old → next_len cut s (place_after taken) old.finished ≡ next_given new
  pub fed : (cut : Cut) (s : List ℕ) (taken : List (List ℕ)) → HasFed cut s taken old → HasFed cut s taken new
  pub within : IfSome (next_given new) (λ n. (1 ≤ n) × (n ≤ length old.held))
  pub short : IfNone (next_given new) (length old.held < old.cut.most)
  pub cut : new.cut ≡ old.cut
  pub held : new.held ≡ old.held
  pub finished : new.finished ≡ old.finished
