use Rattle.std.proofs.Common.{rules, codes, ◌++◌, sym, subst, ◌≡◌, List, ℕ, Some}
use Rattle.bd_script.specs.Numbers.{number_of}
use Rattle.bd_script.specs.Scripts.{IsLineOf}
use Rattle.bd_model.specs.declared.command.Command.TheVariants.{Restore}
use Rattle.bd_script.proofs.Spelled.{no_version, no_restore_name, restore_spelled}
use Rattle.bd_script.proofs.spelling.restore_of.Goals as goal

pub returns-in_default-version_of-clause-none : goal.returns-in_default-version_of-clause-none
returns-in_default-version_of-clause-none c met = no_version c.args.rest.now c.in-Some.digits.now c.in-Some.name.now c.in-Some.ensures (cc (c.version_of.ensures, c.in_default-version_of.is))

pub returns-in_err-name-clause-none : goal.returns-in_err-name-clause-none
returns-in_err-name-clause-none c met = no_restore_name c.args.rest.now c.in-Some.digits.now c.in-Some.name.now c.in-Some.ensures (search rules)

pub returns-clause-spelled : goal.returns-clause-spelled
returns-clause-spelled c =
    let found : number_of 4294967295 c.in-Some.digits.now ≡ Some c.in-Some-version_of.version = cc (c.version_of.ensures, c.in-Some-version_of.is) in
    subst (λ (name : List ℕ). IsLineOf (Restore c.in-Some-version_of.version name) (codes "restore " ++ c.args.rest.now)) (sym c.in_ok-name.ensures.name)
    (restore_spelled c.args.rest.now c.in-Some.digits.now c.in-Some.name.now c.in-Some-version_of.version c.in-Some.ensures found c.in_ok-name.ensures.text)
