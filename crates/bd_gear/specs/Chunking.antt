-- A chunker, as contracts see it.
use Rattle.std.specs.Prelude.{ℕ, Bool, ◌||◌, ◌&&◌, List, map, length, Vec, Option, Some, None, nat_lt, if◌then◌else◌}
use Rattle.bd_model.specs.Chunks.{Cut, chunk_len, is_decided}

-- chunks as lists of bytes
abbrev pub as_chunks : {Z : Type 0} → List (Vec ℕ Z) → List (List ℕ)
as_chunks chunks = map (λ c. c.items) chunks

pub record Chunking : Type 0 where
  -- the sizes that say where chunks end
  pub cut : Cut
  -- the bytes that were fed and not yet removed
  pub held : List ℕ
  -- over how many of them the hash rolled, and the hash after these
  pub scanned : ℕ
  pub hash : ℕ
  -- whether these are the next chunk
  pub found : Bool
  -- whether no input follows
  pub finished : Bool

-- the length of the next chunk that was next_given and not yet removed
abbrev pub next_given : Chunking → Option ℕ
next_given c = if c.found then Some c.scanned else None

-- the length of the chunk from `start` on, where it is decided by the bytes so far, or they are all and some are left
abbrev pub next_len : Cut → List ℕ → ℕ → Bool → Option ℕ
next_len cut stream start finished =
    if is_decided cut stream start || (finished && nat_lt start (length stream)) then Some (chunk_len cut stream start) else None
