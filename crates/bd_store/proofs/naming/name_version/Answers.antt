use Rattle.std.proofs.Common.{sym, ◌∙◌}
use Rattle.bd_store.proofs.BackupMeets.{holds_ok}
use Rattle.bd_store.proofs.naming.name_version.Goals as goal

pub returns-clause-done : goal.returns-clause-done
returns-clause-done g c = holds_ok c.commit.result _ (sym c.is_err.ensures.value ∙ c.if-is_err.false) c.commit.ensures.done

pub returns-clause-owners : goal.returns-clause-owners
returns-clause-owners g c = holds_ok c.commit.result _ (sym c.is_err.ensures.value ∙ c.if-is_err.false) c.commit.ensures.owners
