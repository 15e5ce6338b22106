-- The damage of a header is passed on.
use Rattle.std.proofs.Common.{◌≡◌, refl}
use Rattle.std.specs.Prelude.{Err}
use Rattle.bd_model.specs.declared.damage.Damage.{Damage}
use Rattle.bd_category.specs.declared.fault.CategoryFault.{CategoryFault}
use Rattle.bd_category.specs.declared.fault.CategoryFault.TheVariants.{DiskFault as RecordFault, Damaged as BadRecord}
use Rattle.bd_recipe.specs.Reading.{IfDamaged}
use Rattle.bd_arrange.specs.Cuts.{read_fault_of}

pub header_damage : (T : Type 0) (P : Damage → Type 0) (fault : CategoryFault) → ((damage : Damage) → fault ≡ BadRecord damage → P damage) → IfDamaged {T = T} (Err (read_fault_of fault)) P
header_damage T P RecordFault met = tt
header_damage T P (BadRecord damage) met = met damage refl
