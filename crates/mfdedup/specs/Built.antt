-- Which commands are built.
use Rattle.std.specs.Prelude.{Bool, true, false}
use Rattle.bd_model.specs.declared.command.Command.{Command}
use Rattle.bd_model.specs.declared.command.Command.TheVariants.{Scrub}

-- whether a command is built; a scrub is still to come
abbrev pub is_built : Command → Bool
is_built Scrub = false
is_built _ = true
