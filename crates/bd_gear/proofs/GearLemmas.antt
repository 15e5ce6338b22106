-- A gear from its digest, and the hash after one more byte.
use Rattle.std.proofs.Common.{◌≡◌, ◌≢◌, ℕ, suc, ◌+◌, ◌-◌, ◌*◌, ◌/◌, ◌^◌, ◌<◌, ◌≤◌, List, [], ◌∷◌, ◌++◌, refl, sym, ◌∙◌, ap, arith, take, length, get_or, set, ⊎_elim, get_or-set_other, get_or-set_same}
use Rattle.std.proofs.lemmas.Bool.{cases_lt}
use Rattle.std.proofs.lemmas.List.{take_more}
use Rattle.std.proofs.lemmas.Nat.{div-mul-add, pow_pos, pow-add}
use Rattle.bd_model.specs.Chunks.{gear}

one_more : (n : ℕ) (bytes front : List ℕ) → n < length bytes → take n bytes ≡ front → take (n + 1) bytes ≡ front ++ get_or bytes n 0 ∷ []
one_more n bytes front lt is = take_more bytes n 0 lt ∙ ap (λ xs. xs ++ get_or bytes n 0 ∷ []) is

-- the first eight of some bytes, one by one
pub take_eight : (bytes : List ℕ) → 8 ≤ length bytes → take 8 bytes ≡
    get_or bytes 0 0 ∷ get_or bytes 1 0 ∷ get_or bytes 2 0 ∷ get_or bytes 3 0 ∷ get_or bytes 4 0 ∷ get_or bytes 5 0 ∷ get_or bytes 6 0 ∷ get_or bytes 7 0 ∷ []
take_eight bytes le =
    one_more 7 bytes _ (omega arith)
    (one_more 6 bytes _ (omega arith)
    (one_more 5 bytes _ (omega arith)
    (one_more 4 bytes _ (omega arith)
    (one_more 3 bytes _ (omega arith)
    (one_more 2 bytes _ (omega arith)
    (one_more 1 bytes _ (omega arith)
    (one_more 0 bytes [] (omega arith) refl)))))))

-- one more entry of the table
pub gears_more : (table : List ℕ) (byte at value : ℕ) → at ≡ byte → byte < length table → value ≡ gear byte →
    ((k : ℕ) → k < byte → get_or table k 0 ≡ gear k) → (k : ℕ) → k < byte + 1 → get_or (set table at value) k 0 ≡ gear k
gears_more table byte at value at_is lt is before k below =
    ⊎_elim
    (λ less. let other : k ≢ at = omega arith in get_or-set_other table at k value 0 other ∙ before k less)
    (λ here.
    let same : k ≡ at = omega arith in
    ap (λ i. get_or (set table at value) i 0) same ∙ get_or-set_same table at value 0 (omega arith) ∙ is ∙ ap gear (sym at_is ∙ sym same))
    (cases_lt k byte)

quotient : (q w : ℕ) → 1 ≤ w → (suc q * w - 1) / w + 1 ≡ suc q
quotient q w some =
    let top : suc q * w - 1 ≡ q * w + (w - 1) = omega arith in
    ap (λ n. n / w + 1) top ∙ ap (λ n. n + 1) (div-mul-add q w (w - 1) (omega arith)) ∙ omega arith

-- the greatest number of 64 bits, without its last bits
pub ones_shifted : (bits : ℕ) → bits ≤ 32 → 18446744073709551615 / 2 ^ bits + 1 ≡ 2 ^ (64 - bits)
ones_shifted bits le =
    let q = 2 ^ (64 - bits) in
    let w = 2 ^ bits in
    let some : 1 ≤ q = pow_pos (64 - bits) in
    let some' : 1 ≤ w = pow_pos bits in
    let exponent : 64 - bits + bits ≡ 64 = omega arith in
    let whole : q * w ≡ 2 ^ 64 = sym (pow-add 2 (64 - bits) bits) ∙ ap (λ n. 2 ^ n) exponent in
    let next : suc (q - 1) ≡ q = omega arith in
    let top : 18446744073709551615 ≡ suc (q - 1) * w - 1 = sym (ap (λ n. n * w - 1) next ∙ ap (λ n. n - 1) whole) in
    ap (λ n. n / w + 1) top ∙ quotient (q - 1) w some' ∙ next
