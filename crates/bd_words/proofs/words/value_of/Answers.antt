use Rattle.std.proofs.Common.{◌∙◌, sym, string_bytes}
use Rattle.bd_words.proofs.Pairs.{no_pair}
use Rattle.bd_words.proofs.words.value_of.Goals as goal

pub returns : goal.returns
returns c = no_pair string_bytes c.loop-rest.rest.now c.args.option.now c.in_default.len_below ∙ sym c.loop-rest.invariant
