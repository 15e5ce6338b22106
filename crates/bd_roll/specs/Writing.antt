-- What a buffer holds after bytes were put into it.
use Rattle.std.specs.Prelude.{ℕ, ◌+◌, List, ◌++◌, length, take, drop}
use Rattle.bd_model.specs.Records.{four}
use Rattle.bd_roll.specs.Catalogue.{Catalogue}
use Rattle.bd_roll.specs.Spelling.{spelled_phase}

-- the bytes stand from place `at` on, and all else is as it was; the buffer grows by those past its end, which `overwritten` leaves out
abbrev pub put_at : List ℕ → ℕ → List ℕ → List ℕ
put_at buffer at bytes = take at buffer ++ bytes ++ drop (at + length bytes) buffer

-- the fields before the lists
abbrev pub spelled_head : Catalogue → List ℕ
spelled_head c = four c.base ++ four c.newest ++ four (length c.versions) ++ spelled_phase c.phase
