-- The numbers that texts spell.
use Rattle.std.specs.Prelude.{◌≡◌, ◌↔◌, ℕ, ◌+◌, ◌*◌, ◌-◌, ◌^◌, ◌<◌, ◌≤◌, Bool, not, ◌&&◌, ◌||◌, ◌==◌, List, [], ◌∷◌, length, slice_index, nat_le, decimal, Option, Some, None, if◌then◌else◌}
use Rattle.std.specs.List.{list_all}

abbrev pub is_digit : ℕ → Bool
is_digit b = nat_le 48 b && nat_le b 57

-- decimal digits that begin with a 0 only where they are no more
abbrev pub is_digits : List ℕ → Bool
is_digits bytes = not (length bytes == 0) && (list_all is_digit bytes && (length bytes == 1 || not (slice_index bytes 0 == 48)))

-- the number that digits spell behind a number
abbrev pub read_on : ℕ → List ℕ → ℕ
read_on n [] = n
read_on n (b ∷ bytes) = read_on (10 * n + (b - 48)) bytes

-- the number that the text spells, where it is at most this
abbrev pub number_of : ℕ → List ℕ → Option ℕ
number_of most text = if is_digits text && nat_le (read_on 0 text) most then Some (read_on 0 text) else None

-- A number is spelled in one way: by its decimal digits.
abbrev pub NumbersAreTheirDigits : Type 0
NumbersAreTheirDigits = (most n : ℕ) (text : List ℕ) → most < 2 ^ 64 → (number_of most text ≡ Some n) ↔ ((n ≤ most) × (text ≡ decimal n))
