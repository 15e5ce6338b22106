use Rattle.std.proofs.Common.{◌∙◌, sym, map, string_bytes}
use Rattle.bd_words.proofs.Given.{two_read, two_taken, two_there}
use Rattle.bd_words.proofs.values.two_values.Goals as goal

pub parsed-requires : goal.parsed-requires
parsed-requires c = record { taken = two_taken _ _ c.in_ok-two_values_line.ensures.line c.requires.plain }

pub found-requires : goal.found-requires
found-requires c =
    let read = two_read _ _ c.in_ok-matches.matches c.in_ok-two_values_line.ensures.line c.requires.plain c.in_ok-matches.ensures.matches in
    (two_there _ _ (map string_bytes c.args.words.now) c.requires.plain read.0 read.1).0

pub found-requires-2 : goal.found-requires-2
found-requires-2 c =
    let read = two_read _ _ c.in_ok-matches.matches c.in_ok-two_values_line.ensures.line c.requires.plain c.in_ok-matches.ensures.matches in
    (two_there _ _ (map string_bytes c.args.words.now) c.requires.plain read.0 read.1).1

pub returns-clause-first : goal.returns-clause-first
returns-clause-first c = sym (two_read _ _ c.in_ok-matches.matches c.in_ok-two_values_line.ensures.line c.requires.plain c.in_ok-matches.ensures.matches).0 ∙ c.found.ensures

pub returns-clause-second : goal.returns-clause-second
returns-clause-second c = sym (two_read _ _ c.in_ok-matches.matches c.in_ok-two_values_line.ensures.line c.requires.plain c.in_ok-matches.ensures.matches).1 ∙ c.found-2.ensures
