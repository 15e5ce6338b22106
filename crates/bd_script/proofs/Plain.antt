-- Each byte of an answer's text is ASCII.
use Rattle.std.proofs.Common.{◌≡◌, ℕ, ◌/◌, ◌%◌, Bool, true, false, ◌&&◌, nat_lt, List, [], ◌∷◌, ◌++◌, codes, decimal, cond, ◌==◌, zero, suc, Option, Some, None, refl, ◌∙◌, arith}
use Rattle.std.specs.List.{flat_map}
use Rattle.std.specs.Fmt.{digits, digits_onto, digit_glyph}
use Rattle.std.specs.Str.{IsAscii}
use Rattle.std.proofs.lemmas.Str.Ascii.{IsAscii-nil, IsAscii-cons}
use Rattle.std.proofs.lemmas.Bool.Decides.{nat_tests}
use Rattle.bd_model.specs.declared.mark.Mark.{Mark}
use Rattle.bd_model.specs.declared.answer.Answer.{Answer}
use Rattle.bd_model.specs.declared.answer.Answer.TheVariants.{BackedUp, Restored, Expired, Arranged, Scrubbed, Listed, FullNumbers, FullVersions, FullExtents, NoVersion, NothingRetained, Formatted, Blanked, Soaked}
use Rattle.bd_model.specs.declared.answer.VersionLine.{VersionLine}
use Rattle.bd_model.specs.declared.damage.Owner.{Owner}
use Rattle.bd_model.specs.declared.damage.Owner.TheVariants.{Volume, Active}
use Rattle.bd_model.specs.declared.damage.Damage.{Damage}
use Rattle.bd_model.specs.declared.damage.Damage.TheVariants.{Entry, Sum, Header, Row, Body, Length, Missing}
use Rattle.bd_model.specs.Texts.{digit, hex, owner_text, damage_text, version_text, none_text, answer_text}

-- each byte is below 128
abbrev plain : List ℕ → Bool
plain [] = true
plain (b ∷ bs) = nat_lt b 128 && plain bs

IsAscii-plain : (bs : List ℕ) → plain bs ≡ true → IsAscii bs
IsAscii-plain [] h = IsAscii-nil
IsAscii-plain (b ∷ bs) h = IsAscii-cons b bs (grind (arith, nat_tests)) (IsAscii-plain bs (grind (arith, nat_tests)))

plain-append : (xs ys : List ℕ) → plain (xs ++ ys) ≡ plain xs && plain ys
plain-append [] ys = refl
plain-append (x ∷ xs) ys = grind (arith, nat_tests, plain-append xs ys)

plain-flat_map : {X : Type 0} (f : X → List ℕ) → ((x : X) → plain (f x) ≡ true) → (xs : List X) → plain (flat_map f xs) ≡ true
plain-flat_map f h [] = refl
plain-flat_map f h (x ∷ xs) = plain-append (f x) (flat_map f xs) ∙ (λ k. h x k && plain-flat_map f h xs k)

plain-cond : (b : Bool) (xs ys : List ℕ) → plain xs ≡ true → plain ys ≡ true → plain (cond b xs ys) ≡ true
plain-cond true xs ys p q = p
plain-cond false xs ys p q = q

plain-glyph : (n : ℕ) → nat_lt (digit_glyph false (n % 10)) 128 ≡ true
plain-glyph n = grind (arith, nat_tests)

plain-onto : (k n : ℕ) (bs : List ℕ) → plain bs ≡ true → plain (digits_onto k 10 false n bs) ≡ true
plain-onto zero n bs h = h
plain-onto (suc k) n bs h =
    let more : plain (digit_glyph false (n % 10) ∷ bs) ≡ true = λ j. plain-glyph n j && h j in
    plain-cond (n / 10 == 0) _ _ more (plain-onto k (n / 10) (digit_glyph false (n % 10) ∷ bs) more)

plain-decimal : (n : ℕ) → plain (decimal n) ≡ true
unfolding digits
plain-decimal n = plain-onto 64 n [] refl

plain-digit : (n : ℕ) → nat_lt (digit n) 128 ≡ true
plain-digit n = grind (arith, nat_tests, IsAscii-plain (codes "0123456789abcdef") refl n)

plain-hex : (m : Mark) → plain (hex m) ≡ true
plain-hex m = plain-flat_map (λ b. digit (b / 16) ∷ digit (b % 16) ∷ []) (λ b k. plain-digit (b / 16) k && (plain-digit (b % 16) k && true)) m.0

plain-owner : (o : Owner) → plain (owner_text o) ≡ true
plain-owner (Volume j) = simp plain-decimal
plain-owner (Active i) = simp plain-decimal

plain-damage : (d : Damage) → plain (damage_text d) ≡ true
plain-damage (Entry v i n s) = simp (plain-append, plain-decimal)
plain-damage (Sum v r f) = simp (plain-append, plain-decimal)
plain-damage (Header who at n left) = simp (plain-append, plain-decimal, plain-owner)
plain-damage (Row who s r f) = simp (plain-append, plain-decimal, plain-owner)
plain-damage (Body who at r f) = simp (plain-append, plain-decimal, plain-owner, plain-hex)
plain-damage (Length v m r f) = simp (plain-append, plain-decimal, plain-hex)
plain-damage (Missing v i m) = simp (plain-append, plain-decimal, plain-hex)

plain-version : (l : VersionLine) → plain (version_text l) ≡ true
plain-version l = simp (plain-append, plain-decimal)

plain-none : (asked : Option ℕ) → plain (none_text asked) ≡ true
plain-none None = refl
plain-none (Some v) = simp (plain-append, plain-decimal)

plain-answer : (a : Answer) → plain (answer_text a) ≡ true
plain-answer (BackedUp v b c w x) = simp (plain-append, plain-decimal)
plain-answer (Restored v b) = simp (plain-append, plain-decimal)
plain-answer (Expired v x) = simp (plain-append, plain-decimal)
plain-answer (Arranged x y) = simp (plain-append, plain-decimal)
plain-answer (Scrubbed report) = simp (plain-append, plain-decimal, plain-flat_map damage_text plain-damage)
plain-answer (Listed lines) = simp (plain-append, plain-decimal, plain-flat_map version_text plain-version)
plain-answer FullNumbers = refl
plain-answer (FullVersions r) = simp (plain-append, plain-decimal)
plain-answer (FullExtents x y z) = simp (plain-append, plain-decimal)
plain-answer (NoVersion v o n) = simp (plain-append, plain-decimal)
plain-answer (NothingRetained asked) = plain-none asked
plain-answer Formatted = refl
plain-answer (Blanked b) = simp (plain-append, plain-decimal)
plain-answer (Soaked s k b c w x m) = simp (plain-append, plain-decimal, plain-hex)

pub IsAscii-answer_text : (a : Answer) → IsAscii (answer_text a)
IsAscii-answer_text a = IsAscii-plain (answer_text a) (plain-answer a)
