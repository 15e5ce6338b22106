use Rattle.std.proofs.Common.{codes, map, string_bytes, refl}
use Rattle.bd_words.specs.Lines.{format_line}
use Rattle.bd_words.proofs.Given.{format_read, format_taken, value_read}
use Rattle.bd_words.proofs.values.options_of.Goals as goal

pub parsed-requires : goal.parsed-requires
parsed-requires c = record { taken = format_taken string_bytes _ c.args.words.now c.in_ok-format_line.ensures.line c.requires.some c.requires.plain }

pub returns-clause-extent : goal.returns-clause-extent
returns-clause-extent c = value_read _ format_line (map string_bytes c.args.words.now) c.in_ok-matches.matches (codes "extent") _ _ c.in_ok-format_line.ensures.line refl c.in_ok-matches.ensures.matches c.get_str.ensures (format_read string_bytes c.args.words.now (codes "extent") c.requires.some c.requires.plain)

pub returns-clause-extents : goal.returns-clause-extents
returns-clause-extents c = value_read _ format_line (map string_bytes c.args.words.now) c.in_ok-matches.matches (codes "extents") _ _ c.in_ok-format_line.ensures.line refl c.in_ok-matches.ensures.matches c.get_str-2.ensures (format_read string_bytes c.args.words.now (codes "extents") c.requires.some c.requires.plain)

pub returns-clause-retain : goal.returns-clause-retain
returns-clause-retain c = value_read _ format_line (map string_bytes c.args.words.now) c.in_ok-matches.matches (codes "retain") _ _ c.in_ok-format_line.ensures.line refl c.in_ok-matches.ensures.matches c.get_str-3.ensures (format_read string_bytes c.args.words.now (codes "retain") c.requires.some c.requires.plain)

pub returns-clause-min : goal.returns-clause-min
returns-clause-min c = value_read _ format_line (map string_bytes c.args.words.now) c.in_ok-matches.matches (codes "min") _ _ c.in_ok-format_line.ensures.line refl c.in_ok-matches.ensures.matches c.get_str-4.ensures (format_read string_bytes c.args.words.now (codes "min") c.requires.some c.requires.plain)

pub returns-clause-bits : goal.returns-clause-bits
returns-clause-bits c = value_read _ format_line (map string_bytes c.args.words.now) c.in_ok-matches.matches (codes "bits") _ _ c.in_ok-format_line.ensures.line refl c.in_ok-matches.ensures.matches c.get_str-5.ensures (format_read string_bytes c.args.words.now (codes "bits") c.requires.some c.requires.plain)

pub returns-clause-max : goal.returns-clause-max
returns-clause-max c = value_read _ format_line (map string_bytes c.args.words.now) c.in_ok-matches.matches (codes "max") _ _ c.in_ok-format_line.ensures.line refl c.in_ok-matches.ensures.matches c.get_str-6.ensures (format_read string_bytes c.args.words.now (codes "max") c.requires.some c.requires.plain)
