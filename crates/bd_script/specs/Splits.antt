-- Where a text is cut at a byte.
use Rattle.std.specs.Prelude.{◌≡◌, ℕ, Bool, not, ◌==◌, List, ◌∷◌, ◌++◌, IsTrue}
use Rattle.std.specs.List.{list_all}

-- no byte of the text is this one
abbrev pub lacks : ℕ → List ℕ → Bool
lacks byte text = list_all (λ b. not (b == byte)) text

-- the text is what stands before the first such byte, this byte, and what stands behind it
pub record IsCutAt (byte : ℕ) (text before behind : List ℕ) : Type 0 where
  pub parts : text ≡ before ++ byte ∷ behind
  pub first : IsTrue (lacks byte before)
