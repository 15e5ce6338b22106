-- What a buffer holds after bytes were put into it.
use Rattle.std.proofs.Common.{◌≡◌, ℕ, ◌+◌, ◌≤◌, List, ◌++◌, length, take, drop, sym, ◌∙◌, ap, arith, append_assoc}
use Rattle.std.proofs.lemmas.List.{take_all, take_at, drop_at, length-take-le}
use Rattle.std.proofs.lemmas.List.Edits.{take-paste}
use lib.Seq.{paste}

-- where the front is written already, the bytes follow it
pub take-paste_after : (buffer front bytes : List ℕ) (at n : ℕ) → take at buffer ≡ front → at ≤ length buffer → n ≡ length bytes
    → take (at + n) (paste buffer at bytes n) ≡ front ++ bytes
take-paste_after buffer front bytes at n written within width =
    take-paste buffer at bytes n within (omega arith)
    ∙ ap (λ xs. xs ++ take n bytes) written ∙ ap (λ xs. front ++ xs) (take_all n bytes (omega arith))

-- the bytes stand at their place
pub read-paste : (buffer bytes : List ℕ) (at n : ℕ) → at ≤ length buffer → n ≡ length bytes → take n (drop at (paste buffer at bytes n)) ≡ bytes
read-paste buffer bytes at n within width =
    let front : length (take at buffer) ≡ at = length-take-le at buffer within in
    let whole : take n bytes ≡ bytes = take_all n bytes (omega arith) in
    ap (λ xs. take n (drop at xs)) (append_assoc (take at buffer) (take n bytes) (drop (at + n) buffer))
    ∙ ap (take n) (drop_at (take at buffer) (take n bytes ++ drop (at + n) buffer) at front)
    ∙ take_at (take n bytes) (drop (at + n) buffer) n (ap length whole ∙ sym width) ∙ whole
