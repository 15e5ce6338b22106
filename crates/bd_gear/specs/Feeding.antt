-- What a chunker was fed, and what was taken from it.
use Rattle.std.specs.Prelude.{◌≡◌, ℕ, ◌+◌, ◌-◌, ◌≤◌, List, ◌++◌, length, take, Some, IsTrue, IsFalse}
use Rattle.std.specs.List.{concat}
use Rattle.bd_model.specs.Chunks.{Cut, is_candidate, chunks, chunks_after}
use Rattle.bd_model.specs.Laws.{IsCut, rolled}
use Rattle.bd_gear.specs.Chunking.{Chunking, next_len}

-- how many bytes these chunks have together: the place in the stream at which the next one begins
abbrev pub place_after : List (List ℕ) → ℕ
place_after taken = length (concat taken)

-- The chunker was fed the stream, in whatever pieces, and these chunks were taken from it.
pub record HasFed (cut : Cut) (stream : List ℕ) (taken : List (List ℕ)) (c : Chunking) : Type 0 where
  pub cut_is : c.cut ≡ cut
  pub is_cut : IsCut cut
  -- the chunks taken and the bytes held, joined together, are the stream
  pub bytes : concat taken ++ c.held ≡ stream
  -- they are its first chunks, and until the end of input the first of every stream that begins with it
  pub now : chunks cut stream ≡ taken ++ chunks_after cut stream (place_after taken)
  pub later : IsFalse c.finished → (more : List ℕ) → chunks cut (stream ++ more) ≡ taken ++ chunks_after cut (stream ++ more) (place_after taken)
  -- the hash rolled over all bytes of the stream up to those that are scanned
  pub within : c.scanned ≤ length c.held
  pub hash_is : c.hash ≡ rolled (take (place_after taken + c.scanned) stream)
  -- the scan has not passed the end of the next chunk
  pub passed : IsFalse c.found → (n : ℕ) → cut.least ≤ n → n ≤ c.scanned → IsFalse (is_candidate cut.bits stream (place_after taken + n - 1))
  pub next : IsTrue c.found → next_len cut stream (place_after taken) c.finished ≡ Some c.scanned
