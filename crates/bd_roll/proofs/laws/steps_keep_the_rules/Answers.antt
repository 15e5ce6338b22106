use Rattle.bd_model.specs.Sizes.{sizes_of}
use Rattle.bd_roll.proofs.RulesAfterDrop.{dropped_rules}
use Rattle.bd_roll.proofs.RuleLemmas.{bounded_of}
use Rattle.bd_roll.proofs.RulesAfterSplit.{split_rules}
use Rattle.bd_roll.proofs.laws.steps_keep_the_rules.Goals as goal

pub returns-clause-split : goal.returns-clause-split
returns-clause-split c = λ shape k e rules may. split_rules (sizes_of shape) (bounded_of shape) k e rules may

pub returns-clause-fewer : goal.returns-clause-fewer
returns-clause-fewer c = λ shape d k rules fits. dropped_rules (sizes_of shape) (bounded_of shape) d k rules fits
