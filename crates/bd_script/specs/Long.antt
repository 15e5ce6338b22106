-- Which answers have no short text: lists, reports of scrubs, and ends of runs over drawn streams.
use Rattle.std.specs.Prelude.{Bool, true, false}
use Rattle.bd_model.specs.declared.answer.Answer.{Answer}
use Rattle.bd_model.specs.declared.answer.Answer.TheVariants.{Scrubbed, Listed, Soaked}

abbrev pub is_long : Answer → Bool
is_long (Scrubbed report) = true
is_long (Listed lines) = true
is_long (Soaked s k b c w x m) = true
is_long _ = false
