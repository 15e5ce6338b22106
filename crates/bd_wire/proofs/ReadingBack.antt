-- What a field reads back as, and what its bytes are, before any other bytes.
use Rattle.std.proofs.Common.{◌≡◌, ℕ, ◌^◌, ◌<◌, List, ◌++◌, take, drop, sym, ◌∙◌, ap}
use Rattle.std.specs.Int.{w32, to_be_bytes, from_be_bytes}
use Rattle.std.proofs.lemmas.Nat.{from_be_bytes-to_be_bytes_4}

pub u32_same : (m n : ℕ) (rest others : List ℕ) → m < 2 ^ 32 → n < 2 ^ 32
    → to_be_bytes w32 m ++ rest ≡ to_be_bytes w32 n ++ others → (m ≡ n) × (rest ≡ others)
u32_same m n rest others fits_m fits_n same = (
  sym (from_be_bytes-to_be_bytes_4 m fits_m)
      ∙ ap (λ bytes. from_be_bytes w32 (take 4 bytes)) same
      ∙ from_be_bytes-to_be_bytes_4 n fits_n,
  ap (drop 4) same,
)
