-- Which lines spell no command.
use Rattle.std.proofs.Common.{◌≡◌, ℕ, ◌^◌, ◌<◌, ◌≤◌, ◌∙◌, ◌++◌, List, [], ◌∷◌, codes, decimal, refl, sym, subst, ap, arith, Some, None, append_assoc, drop, get_or}
use Rattle.bd_model.specs.declared.command.Command.TheVariants.{Backup, Restore, Expire, Reorganise, Scrub, List as Listing}
use Rattle.bd_script.specs.Numbers.{number_of}
use Rattle.bd_script.specs.Scripts.{IsLineOf, IsNoCommand, IsTextName, command_line}
use Rattle.bd_script.specs.Splits.{IsCutAt}
use Rattle.bd_script.proofs.Cuts.{cut_once}
use Rattle.bd_script.proofs.Decimals.{number_read, number_spelled, decimal_lacks}

pub restore_line : (v : ℕ) (name : List ℕ) → command_line (Restore v name) ≡ codes "restore " ++ (decimal v ++ 32 ∷ name)
restore_line v name = ap (λ (xs : List ℕ). codes "restore " ++ xs) (append_assoc (decimal v) (32 ∷ []) name)

pub restore_rest : (rest name : List ℕ) (v : ℕ) → command_line (Restore v name) ≡ codes "restore " ++ rest → decimal v ++ 32 ∷ name ≡ rest
restore_rest rest name v e = ap (λ (xs : List ℕ). drop 8 xs) (sym (restore_line v name) ∙ e)

-- what a restore's line goes on with has these parts alone
parts-are : (rest digits name : List ℕ) (v : ℕ) (other : List ℕ) → IsCutAt 32 rest digits name → v < 2 ^ 32 → command_line (Restore v other) ≡ codes "restore " ++ rest → (decimal v ≡ digits) × (other ≡ name)
parts-are rest digits name v other cut fits e = cut_once 32 (decimal v) digits other name (decimal_lacks 32 v refl (omega arith)) cut.first (restore_rest rest other v e ∙ cut.parts)

some-none : (v : ℕ) → None ≡ Some v → ⊥
some-none v e = cc (e)

apart : (i : ℕ) (xs ys : List ℕ) → (get_or xs i 0 ≡ get_or ys i 0 → ⊥) → xs ≡ ys → ⊥
apart i xs ys differ e = differ (ap (λ (l : List ℕ). get_or l i 0) e)

-- a line that begins as a restore is no other command
only-restores : (rest : List ℕ) → ((v : ℕ) (name : List ℕ) → IsLineOf (Restore v name) (codes "restore " ++ rest) → ⊥) → IsNoCommand (codes "restore " ++ rest)
only-restores rest none (Restore v name) l = none v name l
only-restores rest none (Backup name) l = apart 0 _ _ (λ e. omega (arith, e)) l.spelled
only-restores rest none Expire l = apart 0 _ _ (λ e. omega (arith, e)) l.spelled
only-restores rest none Reorganise l = apart 2 _ _ (λ e. omega (arith, e)) l.spelled
only-restores rest none Scrub l = apart 0 _ _ (λ e. omega (arith, e)) l.spelled
only-restores rest none Listing l = apart 0 _ _ (λ e. omega (arith, e)) l.spelled

pub no_version : (rest digits name : List ℕ) → IsCutAt 32 rest digits name → number_of 4294967295 digits ≡ None → IsNoCommand (codes "restore " ++ rest)
no_version rest digits name cut none = only-restores rest (λ v other l.
    let same : (decimal v ≡ digits) × (other ≡ name) = parts-are rest digits name v other cut l.writable.0 l.spelled in
    let read : number_of 4294967295 digits ≡ Some v = number_read 4294967295 v digits (omega arith) (omega (arith, l.writable.0)) (sym same.0) in
    some-none v (sym none ∙ read))

pub no_restore_name : (rest digits name : List ℕ) → IsCutAt 32 rest digits name → (IsTextName name → ⊥) → IsNoCommand (codes "restore " ++ rest)
no_restore_name rest digits name cut bad = only-restores rest (λ v other l.
    bad (subst IsTextName (parts-are rest digits name v other cut l.writable.0 l.spelled).1 l.writable.1))

pub restore_spelled : (rest digits name : List ℕ) (v : ℕ) → IsCutAt 32 rest digits name → number_of 4294967295 digits ≡ Some v → IsTextName name → IsLineOf (Restore v name) (codes "restore " ++ rest)
restore_spelled rest digits name v cut found text =
    let spelled : (v ≤ 4294967295) × (digits ≡ decimal v) = number_spelled 4294967295 v digits (omega arith) found in
    record {
      writable = (omega (arith, spelled.0), text);
      spelled = restore_line v name ∙ ap (λ (xs : List ℕ). codes "restore " ++ xs) (ap (λ (ds : List ℕ). ds ++ 32 ∷ name) (sym spelled.1) ∙ sym cut.parts);
    }
