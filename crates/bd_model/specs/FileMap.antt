-- Files by their names.
use Rattle.std.specs.Prelude.{ℕ, List}
use Rattle.std.specs.Ordering.{nat_cmp}
use Rattle.std.specs.Cmp.Lexicographic.{slice_cmp}
use Rattle.std.specs.FinMap as map

-- what is under each name that is there
abbrev pub FileMap : Type 0
FileMap = map.FinMap (slice_cmp nat_cmp) (List ℕ)
