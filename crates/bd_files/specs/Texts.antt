-- Texts that lie one behind the other.
use Rattle.std.specs.Prelude.{◌≡◌, ℕ, List, [], ◌∷◌, length, take, drop, sum}
use Rattle.bd_files.specs.Sinks.{Handed, whole}

-- texts of these lengths, each with its moment
abbrev pub cut_into : List ℕ → List ℕ → List ℕ → List Handed
cut_into (m ∷ moments) (n ∷ lengths) bytes = whole m (take n bytes) ∷ cut_into moments lengths (drop n bytes)
cut_into _ _ bytes = []

-- there is a moment for each length, and the lengths are together all bytes
pub record AreTexts (moments lengths bytes : List ℕ) : Type 0 where
  pub paired : length moments ≡ length lengths
  pub full : sum lengths ≡ length bytes
