use Rattle.std.proofs.Common.{◌∙◌}
use Rattle.bd_model.specs.Records.{spelled_entry}
use Rattle.bd_recipe.proofs.SpelledEntries.{overwritten_whole}
use Rattle.bd_recipe.proofs.entry.entry_bytes.Goals as goal

pub returns-clause-so : goal.returns-clause-so
returns-clause-so c = c.put_entry.ensures.written ∙ overwritten_whole _ (spelled_entry c.args.entry.now) c.put_entry.ensures.sized
