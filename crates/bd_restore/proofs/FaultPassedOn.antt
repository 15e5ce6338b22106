-- What is known of an answer that passes a fault on.
use Rattle.std.proofs.Common.{◌≡◌, ℕ, refl, sym, subst}
use Rattle.std.specs.Prelude.{Result, Ok, Err, IsErrAnd}
use Rattle.bd_model.specs.declared.damage.Damage.{Damage}
use Rattle.bd_category.specs.declared.fault.CategoryFault.{CategoryFault}
use Rattle.bd_category.specs.declared.fault.CategoryFault.TheVariants.{DiskFault as RecordFault, Damaged as BadRecord}
use Rattle.bd_restore.specs.declared.fault.RestoreFault.{RestoreFault}
use Rattle.bd_restore.specs.declared.fault.RestoreFault.TheVariants.{TargetFault, DiskFault, Damaged, OutOfMemory}
use Rattle.bd_restore.specs.Faults.{restore_fault_of, FailsByCounts, IfDamageMet}

-- the counts of a fault that is passed on, where the target's count stood before
pub passed_counts : (U : Type 0) {T : Type 0} (reads reads_now puts begun puts_now : ℕ) (fault : RestoreFault) (result : Result T RestoreFault) → IsErrAnd result (λ e. e ≡ fault) → begun ≡ puts →
    FailsByCounts {T = U} reads reads_now begun puts_now (Err fault) → FailsByCounts reads reads_now puts puts_now result
passed_counts U reads reads_now puts begun puts_now fault (Ok value) is same counts = absurd is
passed_counts U {T} reads reads_now puts begun puts_now fault (Err e) is same counts =
    subst (λ n. FailsByCounts {T = T} reads reads_now n puts_now (Err e)) same (subst (λ f. FailsByCounts {T = T} reads reads_now begun puts_now (Err f)) (sym is) (by fault counts)) where
      by : (f : RestoreFault) → FailsByCounts {T = U} reads reads_now begun puts_now (Err f) → FailsByCounts {T = T} reads reads_now begun puts_now (Err f)
      by TargetFault c = record { disk = record { later = c.disk.later; cause = c.disk.cause }; target = record { later = c.target.later; cause = c.target.cause }; memory = λ e. cc }
      by DiskFault c = record { disk = record { later = c.disk.later; cause = c.disk.cause }; target = record { later = c.target.later; cause = c.target.cause }; memory = λ e. cc }
      by (Damaged damage) c = record { disk = record { later = c.disk.later; cause = c.disk.cause }; target = record { later = c.target.later; cause = c.target.cause }; memory = λ e. cc }
      by OutOfMemory c = let no : ⊥ = c.memory refl in absurd no

-- the damage of a record is passed on
pub record_damage : {T : Type 0} (Q : Damage → Type 0) (fault : CategoryFault) (result : Result T RestoreFault) → IsErrAnd result (λ e. e ≡ restore_fault_of fault) → ((damage : Damage) → fault ≡ BadRecord damage → Q damage) → IfDamageMet result Q
record_damage Q fault (Ok value) is met = absurd is
record_damage {T} Q fault (Err e) is met = subst (λ f. IfDamageMet {T = T} (Err f) Q) (sym is) (by fault met) where
  by : (f : CategoryFault) → ((damage : Damage) → f ≡ BadRecord damage → Q damage) → IfDamageMet {T = T} (Err (restore_fault_of f)) Q
  by RecordFault met = tt
  by (BadRecord damage) met = met damage refl

-- and what follows of a damage
pub damaged_by : (U : Type 0) {T : Type 0} (P Q : Damage → Type 0) (fault : RestoreFault) (result : Result T RestoreFault) → IsErrAnd result (λ e. e ≡ fault) → ((damage : Damage) → P damage → Q damage) → IfDamageMet {T = U} (Err fault) P → IfDamageMet result Q
damaged_by U P Q fault (Ok value) is step met = tt
damaged_by U {T} P Q fault (Err e) is step met = subst (λ f. IfDamageMet {T = T} (Err f) Q) (sym is) (by fault met) where
  by : (f : RestoreFault) → IfDamageMet {T = U} (Err f) P → IfDamageMet {T = T} (Err f) Q
  by TargetFault met = tt
  by DiskFault met = tt
  by (Damaged damage) met = step damage met
  by OutOfMemory met = tt
