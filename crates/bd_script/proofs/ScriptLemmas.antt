-- A script while it is read.
use Rattle.std.proofs.Common.{◌≡◌, ℕ, ◌≤◌, ◌++◌, List, length, map}
use Rattle.std.specs.Prelude.{All}
use Rattle.bd_model.specs.declared.command.Command.{Command}
use Rattle.bd_script.specs.Scripts.{IsWritable, command_line, script_lines}

-- these commands were read, the rest is to come, and there is room for its commands
pub record HasRead (bytes rest : List ℕ) (commands : List Command) (spare : ℕ) : Type 0 where
  pub writable : All IsWritable commands
  pub lines : map command_line commands ++ script_lines rest ≡ script_lines bytes
  pub room : length (script_lines rest) ≤ spare
