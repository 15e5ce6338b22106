-- The table of gears.
use Rattle.std.specs.Prelude.{◌≡◌, ℕ, List, slice_index, EachIndex}
use Rattle.bd_model.specs.Chunks.{gear}

-- each entry is the gear of its byte
abbrev pub AreGears : List ℕ → Type 0
AreGears table = EachIndex table (λ byte. slice_index table byte ≡ gear byte)
