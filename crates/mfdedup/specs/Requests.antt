-- What comes of the requests that need no store.
use Rattle.std.specs.Prelude.{◌≡◌, ◌≢◌, ◌⊎◌, ℕ, ◌<◌, List, [], length, get_or, replicate, Option, Some, None}
use Rattle.std.specs.FinMap as map
use Rattle.bd_disk.specs.History.{History, contents, Since}
use Rattle.bd_disk.specs.Made.{WritesNothing, WritesOnly}
use Rattle.bd_files.specs.Files.{ChangesOnly, IsFinished}
use Rattle.bd_model.specs.FileMap.{FileMap}
use Rattle.bd_model.specs.Sizes.{Sizes, sizes_of, extent_place}
use Rattle.bd_model.specs.State.{empty}
use Rattle.bd_model.specs.Texts.{answer_text}
use Rattle.bd_model.specs.declared.answer.Answer.TheVariants.{Formatted, Blanked}
use Rattle.bd_model.specs.declared.layout.Phase.TheVariants.{Settled}
use Rattle.bd_model.specs.declared.shape.Shape.{Shape}
use Rattle.bd_catalog.specs.Standing.{StandsFor}
use Rattle.bd_recover.specs.Answers.{format_refusal}
use Rattle.bd_recover.specs.Opens.{SyncsFirst}
use Rattle.bd_recover.specs.declared.fault.FormatFault.{FormatFault}
use Rattle.bd_recover.specs.declared.fault.FormatFault.TheVariants.{AlreadyAStore as FormatMarked, TooSmall as FormatSmall}
use Rattle.bd_store.specs.Openings.{MakingStops}
use Rattle.bd_session.specs.Ends.{FailsSink}
use Rattle.bd_words.specs.declared.request.Request.{Request}
use Rattle.mfdedup.specs.Noted.{AnswersAlone, NothingNoted}
use Rattle.bd_files.specs.World.{World}
use Rattle.mfdedup.specs.declared.progress.Progress.{Progress}
use Rattle.mfdedup.specs.declared.report.End.{End}
use Rattle.mfdedup.specs.declared.report.End.TheVariants.{Done, OutputFault, AlreadyAStore, TooSmall, DiskFault, OutOfMemory, TargetFault}

-- ---- none

-- this is the end, nothing is noted, and everything is as it was
pub record EndsAtOnce (ending : End) (p : Progress) (before now : World) : Type 0 where
  pub ends : p.end ≡ ending
  pub nothing : NothingNoted p
  pub untouched : now ≡ before

-- the work was done, even if the text of the answer couldn't be put
abbrev pub IsCarriedOut : End → Type 0
IsCarriedOut ending = (ending ≡ Done) ⊎ (ending ≡ OutputFault)

-- ---- words that weren't read

-- memory ran out before the words were read: no request is shown, and nothing was given to a store, answered or noted
pub record WordsUnread (request : Option Request) (p : Progress) : Type 0 where
  pub ends : p.end ≡ OutOfMemory
  pub shown : request ≡ None
  pub nothing : NothingNoted p

-- ---- the empty store

-- the end of a format whose refusal is known, but for a fault of the disk and want of memory
abbrev pub EndsFormat : Option FormatFault → End → Type 0
EndsFormat refusal Done = refusal ≡ None
EndsFormat refusal OutputFault = refusal ≡ None
EndsFormat refusal AlreadyAStore = refusal ≡ Some FormatMarked
EndsFormat refusal (TooSmall need have) = refusal ≡ Some (FormatSmall need have)
EndsFormat refusal DiskFault = Unit {0}
EndsFormat refusal OutOfMemory = Unit {0}
EndsFormat refusal ending = ⊥

-- how a format can end, over whatever disk
abbrev pub EndsMaking : End → Type 0
EndsMaking Done = Unit {0}
EndsMaking OutputFault = Unit {0}
EndsMaking AlreadyAStore = Unit {0}
EndsMaking (TooSmall need have) = Unit {0}
EndsMaking DiskFault = Unit {0}
EndsMaking OutOfMemory = Unit {0}
EndsMaking ending = ⊥

-- The disk holds the empty store, or the end is why it doesn't. A stop at any moment leaves no store or the empty one,
-- and once the answer is noted the empty one.
pub record Formats (shape : Shape) (bytes : ℕ) (ending : End) (clocks : List ℕ) (old new : History) : Type 0 where
  pub ends : EndsFormat (format_refusal (sizes_of shape) bytes (contents old)) ending
  pub made : IsCarriedOut ending → StandsFor shape empty Settled 0 (contents new)
  -- a disk that is a store already or too small isn't written, whatever the end; and none is, for want of memory
  pub untouched : (fault : FormatFault) → format_refusal (sizes_of shape) bytes (contents old) ≡ Some fault → WritesNothing old new
  pub memory : ending ≡ OutOfMemory → new ≡ old
  pub synced : ending ≢ OutOfMemory → SyncsFirst old new
  pub writes : WritesOnly (λ place. place < extent_place (sizes_of shape) 0) old new
  pub stops : MakingStops shape old new
  pub acknowledged : (k : ℕ) → k < length clocks → (image : List ℕ) → Since new (get_or clocks k 0) image → StandsFor shape empty Settled 0 image

-- A format to a shape of these sizes: nothing but the disk is changed, and its count of faults. A sink that failed took a part of
-- the answer's text at most.
pub record FormatsStore (disk sink : Type 0) (sizes : Sizes) (p : Progress) (before now : World) : Type 0 where
  pub shape : Shape
  pub is_shape : sizes_of shape ≡ sizes
  pub commands : p.commands.items ≡ []
  pub ends : EndsMaking p.end
  pub answers : AnswersAlone Formatted p.end p.answers.items
  pub fails : p.end ≡ OutputFault → FailsSink sink (answer_text Formatted) before now
  pub on_disk : disk → Formats shape before.disk_bytes p.end p.clocks.items before.disk now.disk
  pub files : now.files ≡ before.files
  pub unfinished : now.unfinished ≡ before.unfinished
  pub strays : now.strays ≡ before.strays

-- ---- a blank file

-- how a blank file can end
abbrev pub EndsBlank : End → Type 0
EndsBlank Done = Unit {0}
EndsBlank TargetFault = Unit {0}
EndsBlank OutputFault = Unit {0}
EndsBlank OutOfMemory = Unit {0}
EndsBlank ending = ⊥

-- the target is so many zero bytes and finished, and every other name has what it had
pub record Blanks (name : List ℕ) (count : ℕ) (ending : End) (old new : FileMap) (unfinished : List (List ℕ)) : Type 0 where
  pub made : IsCarriedOut ending → new ≡ map.insert old name (replicate count 0)
  pub finished : IsCarriedOut ending → IsFinished name unfinished
  pub others : ChangesOnly name old new
  pub memory : ending ≡ OutOfMemory → new ≡ old

-- A blank file: nothing but the files is changed, and their count of faults. A sink that failed took a part of the answer's text at
-- most.
pub record BlanksFile (files sink : Type 0) (count : ℕ) (name : List ℕ) (p : Progress) (before now : World) : Type 0 where
  pub commands : p.commands.items ≡ []
  pub ends : EndsBlank p.end
  pub answers : AnswersAlone (Blanked count) p.end p.answers.items
  pub fails : p.end ≡ OutputFault → FailsSink sink (answer_text (Blanked count)) before now
  pub on_files : files → Blanks name count p.end before.files now.files now.unfinished
  pub disk : now.disk ≡ before.disk
  pub strays : files → now.strays ≡ before.strays
