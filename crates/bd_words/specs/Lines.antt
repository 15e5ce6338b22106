-- The lines that clap reads, as it sees them. What it reads of them is the value of a word; nothing but the reading of words speaks of this.
use Rattle.std.specs.Prelude.{Bool, ◌&&◌, List, [], ◌∷◌, true, false, Some, codes}
use Rattle.clap.specs.Simple.{App, new_app, new_rule, on_top, with_rule}
use Rattle.clap.specs.Walk.{Rule, Text}
use Rattle.clap.specs.declared.builder.action.ArgAction.TheVariants.{Set}
use Rattle.bd_words.specs.Words.{is_value}

-- an option with a value
abbrev pub option_rule : Text → Rule
option_rule id = record (new_rule id) { long = Some id; action = Some Set }

-- a value at its place
abbrev pub value_rule : Text → Rule
value_rule id = record (new_rule id) { required = true; action = Some Set }

-- a line without the flag for help; its first word is passed over
abbrev pub new_line : App
new_line = on_top (λ top. record top { disable_help_flag = true }) (new_app (codes "line"))

-- the line of a format, a line with one value, and one with two
abbrev pub format_line : App
format_line = with_rule (with_rule (with_rule (with_rule (with_rule (with_rule new_line
    (option_rule (codes "extent"))) (option_rule (codes "extents"))) (option_rule (codes "retain"))) (option_rule (codes "min"))) (option_rule (codes "bits"))) (option_rule (codes "max"))

abbrev pub one_value_line : App
one_value_line = with_rule new_line (value_rule (codes "value"))

abbrev pub two_values_line : App
two_values_line = with_rule (with_rule new_line (value_rule (codes "first"))) (value_rule (codes "second"))

-- a line with one value, and one with two
abbrev pub has_one_value : List Text → Bool
has_one_value (word ∷ value ∷ []) = is_value value
has_one_value words = false

abbrev pub has_two_values : List Text → Bool
has_two_values (word ∷ first ∷ second ∷ []) = is_value first && is_value second
has_two_values words = false
