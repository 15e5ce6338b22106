-- A script under a name.
use Rattle.std.specs.Prelude.{◌≡◌, ◌⊎◌, ℕ, ◌<◌, ◌≤◌, List, length, take, Bool, true, false, Result, Ok, Err}
use Rattle.bd_files.specs.Files.{CountsStrays, Holds}
use Rattle.bd_model.specs.FileMap.{FileMap}
use Rattle.bd_model.specs.declared.command.Command.{Command}
use Rattle.bd_script.specs.Scripts.{AreLinesOf, IsFirstBad, script_lines}
use Rattle.mfdedup.specs.declared.report.End.{End}
use Rattle.mfdedup.specs.declared.report.End.TheVariants.{BadLine, LongScript, OutOfMemory, SourceFault}

-- the most bytes of a script
abbrev pub longest_script : ℕ
longest_script = 1048576

-- the first n bytes are those of the file: all that it has, or as many as there is room for
pub record FetchesFront (files : FileMap) (name : List ℕ) (n room : ℕ) (into : List ℕ) : Type 0 where
  pub bytes : List ℕ
  pub file : Holds files name bytes
  pub within : n ≤ length bytes
  pub so : take n into ≡ take n bytes
  pub all : (n ≡ length bytes) ⊎ (n ≡ room)

-- why bytes are no script, but for want of memory
abbrev pub IsNoScript : List ℕ → End → Type 0
IsNoScript bytes LongScript = longest_script < length bytes
IsNoScript bytes (BadLine number) = (length bytes ≤ longest_script) × IsFirstBad (script_lines bytes) number
IsNoScript bytes OutOfMemory = Unit {0}
IsNoScript bytes ending = ⊥

-- the file is a script, and these are the commands of its lines
pub record HasScript (files : FileMap) (name : List ℕ) (commands : List Command) : Type 0 where
  pub bytes : List ℕ
  pub file : Holds files name bytes
  pub short : length bytes ≤ longest_script
  pub lines : AreLinesOf commands (script_lines bytes)

-- the file has too many bytes for a script
pub record HasLongScript (files : FileMap) (name : List ℕ) : Type 0 where
  pub bytes : List ℕ
  pub file : Holds files name bytes
  pub long : longest_script < length bytes

-- the line of this number is the first that spells no command
pub record HasBadLine (files : FileMap) (name : List ℕ) (number : ℕ) : Type 0 where
  pub bytes : List ℕ
  pub file : Holds files name bytes
  pub short : length bytes ≤ longest_script
  pub first : IsFirstBad (script_lines bytes) number

-- why no script was read, but for a fault of the source and want of memory
abbrev pub EndsUnread : Type 0 → FileMap → List ℕ → End → Type 0
EndsUnread tells files name LongScript = tells → HasLongScript files name
EndsUnread tells files name (BadLine number) = tells → HasBadLine files name number
EndsUnread tells files name SourceFault = Unit {0}
EndsUnread tells files name OutOfMemory = Unit {0}
EndsUnread tells files name ending = ⊥

abbrev pub is_source_fault : End → Bool
is_source_fault SourceFault = true
is_source_fault ending = false

-- how the count of missing sources goes on: at a fault of the source as at a fetch, and at every other end it stays
abbrev pub CountsMissingSource : FileMap → List ℕ → ℕ → ℕ → End → Type 0
CountsMissingSource files name before now SourceFault = CountsStrays files name before now
CountsMissingSource files name before now ending = now ≡ before

abbrev pub CountsScript : {T : Type 0} → FileMap → List ℕ → ℕ → ℕ → Result T End → Type 0
CountsScript files name before now (Ok commands) = now ≡ before
CountsScript files name before now (Err ending) = CountsMissingSource files name before now ending
