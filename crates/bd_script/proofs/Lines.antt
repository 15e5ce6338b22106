-- The lines of a script.
use Rattle.std.proofs.Common.{◌≡◌, ℕ, ◌+◌, ◌<◌, ◌≤◌, ◌==◌, ◌∙◌, ◌++◌, Bool, true, false, not, cond, List, [], ◌∷◌, length, refl, ap, arith}
use Rattle.std.specs.List.{count_by, onto_first}
use Rattle.std.proofs.lemmas.List.Sums.{sum_by-cons}
use Rattle.std.proofs.lemmas.Bool.Decides.{nat_tests}
use Rattle.bd_script.specs.Scripts.{script_lines}
use Rattle.bd_script.specs.Splits.{lacks}

-- the lines, where a byte that isn't a line feed stands before them
other-byte : (b : ℕ) (bytes : List ℕ) (ends : Bool) → (b == 10) ≡ ends → not ends ≡ true → script_lines (b ∷ bytes) ≡ onto_first b (script_lines bytes)
other-byte b bytes false e h = rw e refl
other-byte b bytes true e h = absurd (cc h)

first-lacks : (b : ℕ) (bytes : List ℕ) → lacks 10 (b ∷ bytes) ≡ true → (not (b == 10) ≡ true) × (lacks 10 bytes ≡ true)
first-lacks b bytes h = (grind (arith, nat_tests), grind (arith, nat_tests))

pub line_ended : (before behind : List ℕ) → lacks 10 before ≡ true → script_lines (before ++ 10 ∷ behind) ≡ before ∷ script_lines behind
line_ended [] behind h = refl
line_ended (b ∷ before) behind h =
    let parts : (not (b == 10) ≡ true) × (lacks 10 before ≡ true) = first-lacks b before h in
    other-byte b (before ++ 10 ∷ behind) (b == 10) refl parts.0 ∙ ap (onto_first b) (line_ended before behind parts.1)

last-line : (b : ℕ) (bytes : List ℕ) → lacks 10 (b ∷ bytes) ≡ true → script_lines (b ∷ bytes) ≡ (b ∷ bytes) ∷ []
last-line b [] h = other-byte b [] (b == 10) refl (first-lacks b [] h).0
last-line b (c ∷ bytes) h =
    let parts : (not (b == 10) ≡ true) × (lacks 10 (c ∷ bytes) ≡ true) = first-lacks b (c ∷ bytes) h in
    other-byte b (c ∷ bytes) (b == 10) refl parts.0 ∙ ap (onto_first b) (last-line c bytes parts.1)

pub last_line : (bytes : List ℕ) → 0 < length bytes → lacks 10 bytes ≡ true → script_lines bytes ≡ bytes ∷ []
last_line [] some h = absurd (omega arith)
last_line (b ∷ bytes) some h = last-line b bytes h

length-onto : (b : ℕ) (lines : List (List ℕ)) (n : ℕ) → length lines ≤ n → 1 ≤ n → length (onto_first b lines) ≤ n
length-onto b [] n h one = one
length-onto b (l ∷ lines) n h one = h

lines-more : (b : ℕ) (bytes : List ℕ) (ends : Bool) → (b == 10) ≡ ends → length (script_lines bytes) ≤ count_by (λ b. b == 10) bytes + 1 → length (cond ends ([] ∷ script_lines bytes) (onto_first b (script_lines bytes))) ≤ cond ends 1 0 + count_by (λ b. b == 10) bytes + 1
lines-more b bytes true e h = omega arith
lines-more b bytes false e h = omega (arith, length-onto b (script_lines bytes) (count_by (λ b. b == 10) bytes + 1) h (omega arith))

pub lines_counted : (bytes : List ℕ) → length (script_lines bytes) ≤ count_by (λ b. b == 10) bytes + 1
lines_counted [] = omega arith
lines_counted (b ∷ bytes) = rw (sum_by-cons (λ (x : ℕ). cond (x == 10) 1 0) b bytes) (lines-more b bytes (b == 10) refl (lines_counted bytes))
