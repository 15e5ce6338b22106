-- The bytes between two places of a buffer.
use Rattle.std.proofs.Common.{◌≡◌, ℕ, ◌+◌, ◌-◌, ◌≤◌, List, ◌++◌, sym, ◌∙◌, ap, arith, length, take, drop, slice_range, length-take, drop-drop}
use lib.Seq.{paste}
use Rattle.std.proofs.lemmas.List.{drop-take, drop-append-le, take_all}
use Rattle.std.proofs.lemmas.List.Edits.{take-paste}

-- those up to a later place are the last of the first
pub slice_range-drop : (xs : List ℕ) (a b : ℕ) → a ≤ b → slice_range xs a b ≡ drop a (take b xs)
slice_range-drop xs a b le = let whole : a + (b - a) ≡ b = omega arith in sym (ap (λ n. drop a (take n xs)) (sym whole) ∙ drop-take a (b - a) xs)

-- bytes written behind
pub slice_range-paste : (xs bytes : List ℕ) (start end : ℕ) → start ≤ end → end + length bytes ≤ length xs →
    slice_range (paste xs end bytes (length bytes)) start (end + length bytes) ≡ slice_range xs start end ++ bytes
slice_range-paste xs bytes start end ordered room =
    slice_range-drop (paste xs end bytes (length bytes)) start (end + length bytes) (omega arith)
    ∙ ap (drop start) (take-paste xs end bytes (length bytes) (omega arith) (omega arith))
    ∙ drop-append-le start (take end xs) (take (length bytes) bytes) (omega (arith, length-take end xs))
    ∙ (λ k. sym (slice_range-drop xs start end ordered) k ++ take_all (length bytes) bytes (omega arith) k)

-- the first of them removed
pub slice_range-rest : (xs : List ℕ) (start end n : ℕ) → start + n ≤ end → slice_range xs (start + n) end ≡ drop n (slice_range xs start end)
slice_range-rest xs start end n le =
    let whole : n + (end - (start + n)) ≡ end - start = omega arith in
    sym (ap (λ m. drop n (take m (drop start xs))) (sym whole) ∙ drop-take n (end - (start + n)) (drop start xs) ∙ ap (take (end - (start + n))) (drop-drop n start xs))
