-- What contracts see of a space: the use of each extent number.
use Rattle.std.specs.Prelude.{◌≡◌, ◌+◌, ℕ, List, [], ◌∷◌, length, All, Contains, slice_get, count_by, nat_eq, Bool, true, false, if◌then◌else◌, Some}
use Rattle.std.specs.List.{IsDistinct}
use Rattle.bd_space.specs.declared.space.Use.{Use}
use Rattle.bd_space.specs.declared.space.Use.TheVariants.{Free, Taken, Held}

-- the use of each number, from 0 on
pub record Allotment : Type 0 where
  pub uses : List Use

-- how many numbers there are
abbrev pub extent_count : Allotment → ℕ
extent_count space = length space.uses

abbrev pub IsFree : Allotment → ℕ → Type 0
IsFree space n = slice_get space.uses n ≡ Some Free

abbrev pub IsTaken : Allotment → ℕ → Type 0
IsTaken space n = slice_get space.uses n ≡ Some Taken

abbrev pub IsHeld : Allotment → ℕ → Type 0
IsHeld space n = slice_get space.uses n ≡ Some Held

abbrev pub is_free : Use → Bool
is_free Free = true
is_free Taken = false
is_free Held = false

abbrev pub is_taken : Use → Bool
is_taken Free = false
is_taken Taken = true
is_taken Held = false

abbrev pub is_held : Use → Bool
is_held Free = false
is_held Taken = false
is_held Held = true

-- the numbers whose use passes the test, ascending, where the first use is that of number k
abbrev pub numbers_from : (Use → Bool) → ℕ → List Use → List ℕ
numbers_from test k [] = []
numbers_from test k (u ∷ us) = (if test u then k ∷ numbers_from test (k + 1) us else numbers_from test (k + 1) us)

abbrev pub free_numbers : Allotment → List ℕ
free_numbers space = numbers_from is_free 0 space.uses

abbrev pub free_count : Allotment → ℕ
free_count space = count_by is_free space.uses

abbrev pub taken_count : Allotment → ℕ
taken_count space = count_by is_taken space.uses

abbrev pub held_count : Allotment → ℕ
held_count space = count_by is_held space.uses

-- as many are held as before
abbrev pub KeepsHeld : Allotment → Allotment → Type 0
KeepsHeld old new = held_count new ≡ held_count old

-- these numbers have this use now, and every other number has the use that it had
pub record Marks (numbers : List ℕ) (usage : Use) (old new : Allotment) : Type 0 where
  pub size : extent_count new ≡ extent_count old
  pub marked : All (λ n. slice_get new.uses n ≡ Some usage) numbers
  pub others : (n : ℕ) → ¬ Contains numbers n → slice_get new.uses n ≡ slice_get old.uses n

-- the taken numbers are exactly these, each standing once
pub record TakenExactly (space : Allotment) (numbers : List ℕ) : Type 0 where
  pub taken : All (IsTaken space) numbers
  pub others : (n : ℕ) → IsTaken space n → Contains numbers n
  pub once : IsDistinct nat_eq numbers
