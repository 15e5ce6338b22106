-- Bytes that are put at their place.
use Rattle.std.proofs.Common.{◌≡◌, ℕ, ◌+◌, ◌≤◌, List, ◌++◌, length, take, drop, sym, ◌∙◌, ap, arith, refl, append_assoc, drop-drop}
use Rattle.std.proofs.lemmas.List.{take_all}
use borrow.Rule.Slice.PartMut.{put_mid}
use lib.Seq.{paste}
use Rattle.bd_disk.specs.Images.{overwritten}
use Rattle.bd_disk.proofs.AgreeLemmas.{length-overwritten, bytes_at-overwritten}
use Rattle.bd_disk.proofs.Logs.{put_overwritten}
use Rattle.bd_extio.proofs.Ranges.{overwritten-append}

-- a part of a slice is written over
pub put-overwritten : (into bytes given : List ℕ) (at n : ℕ) → n ≡ length bytes → at + n ≤ length into → given ≡ bytes → put_mid at n into given ≡ overwritten into at bytes
put-overwritten into bytes given at n is fits same = ap (put_mid at n into) same ∙ ap (λ m. put_mid at m into bytes) is ∙ put_overwritten into at bytes (omega (arith, is))

-- a copy of all bytes
pub paste-overwritten : (into bytes : List ℕ) (at n : ℕ) → n ≡ length bytes → at + n ≤ length into → paste into at bytes n ≡ overwritten into at bytes
paste-overwritten into bytes at n is fits =
    ap (λ xs. take at into ++ xs ++ drop (at + n) into) (take_all n bytes (omega (arith, is)))
    ∙ append_assoc (take at into) bytes (drop (at + n) into)
    ∙ ap (λ xs. take at into ++ (bytes ++ xs)) (sym (drop-drop n at into))
    ∙ put-overwritten into bytes bytes at n is fits refl

-- all bytes are written over
pub overwritten_whole : (into bytes : List ℕ) → length bytes ≡ length into → overwritten into 0 bytes ≡ bytes
overwritten_whole into bytes same =
    sym (take_all (length bytes) (overwritten into 0 bytes) (omega (arith, length-overwritten into 0 bytes))) ∙ bytes_at-overwritten into 0 bytes (omega arith)

-- bytes that follow those before them
pub overwritten_behind : (xs : List ℕ) (at place : ℕ) (first second : List ℕ) → place ≡ at + length first → at + length first + length second ≤ length xs →
    overwritten (overwritten xs at first) place second ≡ overwritten xs at (first ++ second)
overwritten_behind xs at place first second is fits = ap (λ p. overwritten (overwritten xs at first) p second) is ∙ overwritten-append xs at first second fits
