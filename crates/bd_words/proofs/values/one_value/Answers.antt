use Rattle.std.proofs.Common.{◌∙◌, sym, map, string_bytes}
use Rattle.bd_words.proofs.Given.{one_read, one_taken, one_there}
use Rattle.bd_words.proofs.values.one_value.Goals as goal

pub parsed-requires : goal.parsed-requires
parsed-requires c = record { taken = one_taken _ _ c.in_ok-one_value_line.ensures.line c.requires.plain }

pub found-requires : goal.found-requires
found-requires c = one_there _ (map string_bytes c.args.words.now) c.requires.plain (one_read _ _ c.in_ok-matches.matches c.in_ok-one_value_line.ensures.line c.requires.plain c.in_ok-matches.ensures.matches)

pub returns-clause-value : goal.returns-clause-value
returns-clause-value c = sym (one_read _ _ c.in_ok-matches.matches c.in_ok-one_value_line.ensures.line c.requires.plain c.in_ok-matches.ensures.matches) ∙ c.found.ensures
