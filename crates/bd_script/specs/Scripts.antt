-- Scripts: their lines, and the commands that these spell.
use Rattle.std.specs.Prelude.{◌≡◌, ◌≢◌, ◌<◌, ◌+◌, ◌^◌, ℕ, List, [], ◌∷◌, ◌++◌, All, length, map, flat_map, codes, ◌==◌, if◌then◌else◌, IsUtf8, IsTrue}
use Rattle.std.specs.List.{onto_first}
use Rattle.bd_model.specs.Limits.{is_name}
use Rattle.bd_model.specs.Texts.{line, named}
use Rattle.bd_model.specs.declared.command.Command.{Command}
use Rattle.bd_model.specs.declared.command.Command.TheVariants.{Backup, Restore, Expire, Reorganise, Scrub, List as Listing}

-- the line of a command, without its line feed
abbrev pub command_line : Command → List ℕ
command_line (Backup name) = codes "backup " ++ name
command_line (Restore version name) = named (codes "restore ") version ++ codes " " ++ name
command_line Expire = codes "expire"
command_line Reorganise = codes "reorganise"
command_line Scrub = codes "scrub"
command_line Listing = codes "list"

-- the lines of a script: each ends at a line feed, which the last one may lack
abbrev pub script_lines : List ℕ → List (List ℕ)
script_lines [] = []
script_lines (b ∷ bytes) = if b == 10 then [] ∷ script_lines bytes else onto_first b (script_lines bytes)

-- a name that is text
pub record IsTextName (name : List ℕ) : Type 0 where
  pub name_is : IsTrue (is_name name)
  pub utf8 : IsUtf8 name

-- a command that a line can spell
abbrev pub IsWritable : Command → Type 0
IsWritable (Backup name) = IsTextName name
IsWritable (Restore version name) = (version < 2 ^ 32) × IsTextName name
IsWritable Expire = Unit {0}
IsWritable Reorganise = Unit {0}
IsWritable Scrub = Unit {0}
IsWritable Listing = Unit {0}

-- the line spells this command
pub record IsLineOf (command : Command) (l : List ℕ) : Type 0 where
  pub writable : IsWritable command
  pub spelled : command_line command ≡ l

-- a line that spells no command
abbrev pub IsNoCommand : List ℕ → Type 0
IsNoCommand l = (command : Command) → IsLineOf command l → ⊥

-- a line that is none of the words that are a command by themselves
pub record IsNoWord (l : List ℕ) : Type 0 where
  pub expire : l ≢ codes "expire"
  pub reorganise : l ≢ codes "reorganise"
  pub scrub : l ≢ codes "scrub"
  pub listing : l ≢ codes "list"

-- these lines spell these commands, in their order
pub record AreLinesOf (commands : List Command) (lines : List (List ℕ)) : Type 0 where
  pub writable : All IsWritable commands
  pub spelled : map command_line commands ≡ lines

-- The line of this number, counted from 1, spells no command. The lines before it do, and others may follow it.
pub record IsFirstBad (lines : List (List ℕ)) (number : ℕ) : Type 0 where
  pub before : List Command
  pub bad : List ℕ
  pub behind : List (List ℕ)
  pub writable : All IsWritable before
  pub all : map command_line before ++ bad ∷ behind ≡ lines
  pub count : number ≡ length before + 1
  pub none : IsNoCommand bad

-- ---- a script as it is written
-- a line for each command
abbrev pub script_of : List Command → List ℕ
script_of commands = flat_map (λ command. line (command_line command)) commands

-- Lines spell at most one list of commands, and none of theirs is bad. A script that was written of commands has their
-- lines, also where the last one lacks its line feed.
pub record ScriptsAreReadBack : Type 0 where
  pub once : (a b : List Command) (lines : List (List ℕ)) → AreLinesOf a lines → AreLinesOf b lines → a ≡ b
  pub good : (commands : List Command) (lines : List (List ℕ)) (number : ℕ) → AreLinesOf commands lines → IsFirstBad lines number → ⊥
  pub written : (commands : List Command) → All IsWritable commands → AreLinesOf commands (script_lines (script_of commands))
  pub unended : (commands : List Command) (last : Command) → All IsWritable (commands ++ last ∷ []) → AreLinesOf (commands ++ last ∷ []) (script_lines (script_of commands ++ command_line last))
