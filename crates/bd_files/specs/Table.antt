-- Files as the entries of a map from names to bytes.
use Rattle.std.specs.Prelude.{ℕ, List, map as each, Vec}
use Rattle.std.specs.Coded.{Coded, coded_ℕ, coded_list}
use Rattle.std.specs.FinMap as map
use Rattle.bd_model.specs.FileMap.{FileMap}

abbrev pub coded_files : Coded FileMap
coded_files = map.code (coded_list coded_ℕ) (coded_list coded_ℕ)

-- what is under each name
abbrev pub file_map : {A : Type 0} → List (Vec ℕ A × Vec ℕ A) → FileMap
file_map entries = map.from_entries (each (λ e. (e.0.items, e.1.items)) entries)
