-- The numbers that texts spell.
use Rattle.std.proofs.Common.{◌≡◌, ℕ, ◌^◌, ◌<◌, ◌≤◌, ◌∙◌, Bool, true, false, ◌&&◌, decimal, get_or, sym, ap, cond, zero, suc, nat_le, List, [], ◌∷◌, length, Option, Some, None, Result, refl, rules, arith}
use Rattle.std.specs.List.{list_all}
use Rattle.std.specs.Result.{OkIff}
use Rattle.std.specs.Str.Parse.{ParsesUnsigned}
use Rattle.std.proofs.lemmas.Bool.Decides.{nat_tests}
use Rattle.std.proofs.lemmas.Str.Parse.{IsNumeralModel, numerals_by_fold, parse_digits}
use Rattle.std.specs.Str.{IsUtf8}
use Rattle.std.proofs.lemmas.Str.{IsUtf8-from_ascii}
use Rattle.std.proofs.lemmas.Fmt.{IsAscii-decimal, decimal_nonempty, decimal-digits_value, digits_decimal, digits_value-decimal, first_decimal, decimal_digit}
use Rattle.bd_script.specs.Splits.{lacks}
use Rattle.bd_script.proofs.Cuts.{lacks_others}
use Rattle.bd_script.specs.Numbers.{NumbersAreTheirDigits, is_digit, is_digits, number_of, read_on}

own : IsNumeralModel (λ ds. list_all is_digit ds ≡ true) (read_on 0)
own = numerals_by_fold _ (search rules) read_on (search rules)

all-digits : (bytes : List ℕ) → is_digits bytes ≡ true → list_all is_digit bytes ≡ true
all-digits bytes h = grind (arith, nat_tests)

pub digits_parse : {E : Type 0} (bytes : List ℕ) (r : Result ℕ E) → is_digits bytes ≡ true → ParsesUnsigned 64 10 bytes r → OkIff r ((0 < length bytes) × (read_on 0 bytes < 2 ^ 64)) (read_on 0 bytes)
digits_parse bytes r h parses = parse_digits own 64 bytes r parses (all-digits bytes h)

pub number_fits : (most n : ℕ) (bytes : List ℕ) → is_digits bytes ≡ true → n ≡ read_on 0 bytes → n ≤ most → Some n ≡ number_of most bytes
number_fits most n bytes h same fits = grind (arith, nat_tests)

pub number_above : (most n : ℕ) (bytes : List ℕ) → n ≡ read_on 0 bytes → most < n → None ≡ number_of most bytes
number_above most n bytes same above = grind (arith, nat_tests)

some-byte : (bytes : List ℕ) → is_digits bytes ≡ true → 0 < length bytes
some-byte [] h = absurd (cc h)
some-byte (b ∷ bytes) h = omega arith

pub number_wide : (most : ℕ) (bytes : List ℕ) → most < 2 ^ 64 → is_digits bytes ≡ true → ((0 < length bytes) × (read_on 0 bytes < 2 ^ 64) → ⊥) → None ≡ number_of most bytes
number_wide most bytes fits h wide =
    let above : (read_on 0 bytes < 2 ^ 64 → ⊥) = λ below. wide (some-byte bytes h, below) in
    number_above most (read_on 0 bytes) bytes refl (omega (arith, above))

-- ---- what is not a number

-- ---- a number is spelled by its decimal digits
first-zero : (bytes : List ℕ) → is_digits bytes ≡ true → get_or bytes 0 0 ≡ 48 → length bytes ≡ 1
first-zero bytes h begins = grind (arith, nat_tests)

digits-are : (bytes : List ℕ) → is_digits bytes ≡ true → read_on 0 bytes < 2 ^ 64 → decimal (read_on 0 bytes) ≡ bytes
digits-are bytes h fits = decimal-digits_value own bytes (all-digits bytes h) (some-byte bytes h) (first-zero bytes h) fits

digits-from : (bytes : List ℕ) → 0 < length bytes → list_all is_digit bytes ≡ true → (get_or bytes 0 0 ≡ 48 → length bytes ≡ 1) → is_digits bytes ≡ true
digits-from bytes some all first = grind (arith, nat_tests)

zero-first : (n : ℕ) → n < 2 ^ 64 → get_or (decimal n) 0 0 ≡ 48 → length (decimal n) ≡ 1
zero-first zero fits h = rw (decimal_digit 0 (omega arith)) refl
zero-first (suc n) fits h = absurd (omega (arith, first_decimal (suc n) (omega arith) fits))

are-digits : (n : ℕ) → n < 2 ^ 64 → is_digits (decimal n) ≡ true
are-digits n fits = digits-from (decimal n) (decimal_nonempty n fits) (digits_decimal own n fits) (zero-first n fits)

only-some : (b : Bool) (v n : ℕ) → cond b (Some v) None ≡ Some n → (b ≡ true) × (v ≡ n)
only-some true v n e = (refl, cc)
only-some false v n e = absurd (cc)

pub number_spelled : (most n : ℕ) (text : List ℕ) → most < 2 ^ 64 → number_of most text ≡ Some n → (n ≤ most) × (text ≡ decimal n)
number_spelled most n text small e =
    let found : ((is_digits text && nat_le (read_on 0 text) most) ≡ true) × (read_on 0 text ≡ n) = only-some _ _ n e in
    let digits : is_digits text ≡ true = grind (arith, nat_tests, found.0) in
    let fits : read_on 0 text ≤ most = grind (arith, nat_tests, found.0) in
    (omega (arith, found.1), sym (digits-are text digits (omega arith)) ∙ ap decimal found.1)

pub number_read : (most n : ℕ) (text : List ℕ) → most < 2 ^ 64 → n ≤ most → text ≡ decimal n → number_of most text ≡ Some n
number_read most n text small fits e =
    let below : n < 2 ^ 64 = omega arith in
    let digits : is_digits text ≡ true = rw e (are-digits n below) in
    let value : read_on 0 text ≡ n = rw e (digits_value-decimal own n below) in
    sym (number_fits most n text digits (sym value) fits)

pub numbers_are_their_digits : NumbersAreTheirDigits
numbers_are_their_digits most n text small = (number_spelled most n text small, λ both. number_read most n text small both.0 both.1)

-- no byte but a digit stands in the digits of a number
pub decimal_lacks : (byte n : ℕ) → is_digit byte ≡ false → n < 2 ^ 64 → lacks byte (decimal n) ≡ true
decimal_lacks byte n fails fits = lacks_others is_digit byte (decimal n) fails (digits_decimal own n fits)

-- what isn't text spells no number
not-some : (most : ℕ) (text : List ℕ) (found : Option ℕ) → most < 2 ^ 64 → (IsUtf8 text → ⊥) → number_of most text ≡ found → None ≡ found
not-some most text None small bad e = refl
not-some most text (Some n) small bad e =
    let spelled : (n ≤ most) × (text ≡ decimal n) = number_spelled most n text small e in
    absurd (bad (rw spelled.1 (IsUtf8-from_ascii (decimal n) (IsAscii-decimal n (omega arith)))))

pub number_no_text : (most : ℕ) (text : List ℕ) → most < 2 ^ 64 → (IsUtf8 text → ⊥) → None ≡ number_of most text
number_no_text most text small bad = not-some most text (number_of most text) small bad refl
