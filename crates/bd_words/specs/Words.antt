-- What words ask for.
use Rattle.std.specs.Prelude.{◌≡◌, ℕ, Bool, true, false, not, is_none, ◌&&◌, ◌==◌, List, [], ◌∷◌, length, drop, slice_index, codes, Option, Some, None, if◌then◌else◌}
use Rattle.std.specs.List.{list_any}
use Rattle.std.specs.Str.{bytes_eq}
use Rattle.bd_model.specs.Limits.{is_name}
use Rattle.bd_model.specs.Shapes.{first_bad_field}
use Rattle.bd_model.specs.Sizes.{Sizes, is_shape, sizes_of}
use Rattle.bd_model.specs.declared.command.Command.{Command}
use Rattle.bd_model.specs.declared.command.Command.TheVariants.{Backup, Restore, Expire, Reorganise, Scrub, List as Listing}
use Rattle.bd_script.specs.Numbers.{number_of}
use Rattle.bd_words.specs.declared.fault.WordsFault.{WordsFault}
use Rattle.bd_words.specs.declared.fault.WordsFault.TheVariants.{BadWords, BadNumber, BadName, BadShape}
use Rattle.bd_words.specs.declared.request.Request.{Request}
use Rattle.bd_words.specs.declared.request.Request.TheVariants.{Format, Run, Script, Blank, Soak}

-- what is asked for, or why it isn't understood
pub data Reading : Type 0 where
  ToFormat : (sizes : Sizes) → Reading
  ToRun : (command : Command) → Reading
  ToScript : (name : List ℕ) → Reading
  ToBlank : (length : ℕ) → (name : List ℕ) → Reading
  ToSoak : (seed : ℕ) → (count : ℕ) → Reading
  Refused : (fault : WordsFault) → Reading

-- ---- lines
-- a word that doesn't begin with a dash
abbrev pub is_value : List ℕ → Bool
is_value word = not (slice_index word 0 == 45)

abbrev pub named_request : Reading → List ℕ → Reading
named_request request name = if is_name name then request else Refused BadName

-- numbers are refused before names
abbrev pub restore_to : List ℕ → Option ℕ → Reading
restore_to name None = Refused (BadNumber 0)
restore_to name (Some version) = named_request (ToRun (Restore version name)) name

abbrev pub restore_request : List ℕ → List ℕ → Reading
restore_request version name = restore_to name (number_of 4294967295 version)

abbrev pub blank_to : List ℕ → Option ℕ → Reading
blank_to name None = Refused (BadNumber 0)
blank_to name (Some length) = named_request (ToBlank length name) name

abbrev pub blank_request : List ℕ → List ℕ → Reading
blank_request length name = blank_to name (number_of 1099516763350 length)

abbrev pub soak_with : Option ℕ → Option ℕ → Reading
soak_with None count = Refused (BadNumber 0)
soak_with (Some seed) None = Refused (BadNumber 1)
soak_with (Some seed) (Some count) = if count == 0 then Refused (BadNumber 1) else ToSoak seed count

abbrev pub soak_request : List ℕ → List ℕ → Reading
soak_request seed count = soak_with (number_of 18446744073709551615 seed) (number_of 16 count)

-- ---- the options of a format
abbrev pub is_option : List ℕ → Bool
is_option word = list_any (bytes_eq word) (codes "--extent" ∷ codes "--extents" ∷ codes "--retain" ∷ codes "--min" ∷ codes "--bits" ∷ codes "--max" ∷ [])

-- the value behind an option
abbrev pub value_of : List ℕ → List (List ℕ) → Option (List ℕ)
value_of option (word ∷ value ∷ words) = if bytes_eq word option then Some value else value_of option words
value_of option words = None

-- an option with its value, which isn't among these words again
abbrev pub is_asked_once : List ℕ → List ℕ → List (List ℕ) → Bool
is_asked_once word value words = is_option word && (is_value value && is_none (value_of word words))

-- options, each with its value, in any order and each at most once
abbrev pub are_options : List (List ℕ) → Bool
are_options [] = true
are_options (word ∷ []) = false
are_options (word ∷ value ∷ words) = is_asked_once word value words && are_options words

-- the number that an option has, or the one that stands for it where it is missing
abbrev pub size_of : ℕ → Option (List ℕ) → Option ℕ
size_of missing None = Some missing
size_of missing (Some value) = number_of 4294967295 value

-- a number, or the refusal of the value at this position
abbrev pub with_number : ℕ → Option ℕ → (ℕ → Reading) → Reading
with_number position None next = Refused (BadNumber position)
with_number position (Some n) next = next n

abbrev pub shape_request : Sizes → Reading
shape_request s = if is_shape s then ToFormat s else Refused (BadShape (first_bad_field s.extent s.extents s.retain s.min s.bits s.max))

-- numbers are refused in this order, whatever the order of the options
abbrev pub sizes_request : Option ℕ → Option ℕ → Option ℕ → Option ℕ → Option ℕ → Option ℕ → Reading
sizes_request extent extents retain min bits max =
    with_number 0 extent (λ extent. with_number 1 extents (λ extents. with_number 2 retain (λ retain.
    with_number 3 min (λ min. with_number 4 bits (λ bits. with_number 5 max (λ max.
    shape_request (record { extent = extent; extents = extents; retain = retain; min = min; bits = bits; max = max })))))))

abbrev pub format_request : List (List ℕ) → Reading
format_request words =
    if not (are_options words) then Refused BadWords else
    sizes_request
    (size_of 1048576 (value_of (codes "--extent") words))
    (size_of 4096 (value_of (codes "--extents") words))
    (size_of 64 (value_of (codes "--retain") words))
    (size_of 2048 (value_of (codes "--min") words))
    (size_of 13 (value_of (codes "--bits") words))
    (size_of 65536 (value_of (codes "--max") words))

-- ---- the other lines
abbrev pub reading_alone : List ℕ → Reading
reading_alone word =
    if bytes_eq word (codes "expire") then ToRun Expire else
    (if bytes_eq word (codes "reorganise") then ToRun Reorganise else
    (if bytes_eq word (codes "scrub") then ToRun Scrub else
    (if bytes_eq word (codes "list") then ToRun Listing else Refused BadWords)))

abbrev pub reading_one : List ℕ → List ℕ → Reading
reading_one word value =
    if not (is_value value) then Refused BadWords else
    (if bytes_eq word (codes "backup") then named_request (ToRun (Backup value)) value else
    (if bytes_eq word (codes "run") then named_request (ToScript value) value else Refused BadWords))

abbrev pub reading_two : List ℕ → List ℕ → List ℕ → Reading
reading_two word first second =
    if not (is_value first && is_value second) then Refused BadWords else
    (if bytes_eq word (codes "restore") then restore_request first second else
    (if bytes_eq word (codes "blank") then blank_request first second else
    (if bytes_eq word (codes "soak") then soak_request first second else Refused BadWords)))

abbrev pub reading_others : List (List ℕ) → Reading
reading_others [] = Refused BadWords
reading_others (word ∷ []) = reading_alone word
reading_others (word ∷ value ∷ []) = reading_one word value
reading_others (word ∷ first ∷ second ∷ []) = reading_two word first second
reading_others (word ∷ a ∷ b ∷ c ∷ words) = Refused BadWords

abbrev pub is_format : List (List ℕ) → Bool
is_format [] = false
is_format (word ∷ words) = bytes_eq word (codes "format")

-- Each line has exactly its words. Words are refused first, then numbers, then names, then sizes out of range.
unfoldable pub reading : List (List ℕ) → Reading
reading words = if is_format words then format_request (drop 1 words) else reading_others words

-- ---- the request that a report shows
abbrev pub AsksFor : Reading → Option Request → Type 0
AsksFor (ToFormat sizes) (Some (Format shape)) = sizes_of shape ≡ sizes
AsksFor (ToRun command) (Some (Run commands)) = commands.items ≡ command ∷ []
AsksFor (ToScript name) (Some (Script named)) = named ≡ name
AsksFor (ToBlank length name) (Some (Blank bytes named)) = (bytes ≡ length) × (named ≡ name)
AsksFor (ToSoak seed count) (Some (Soak drawn turns)) = (drawn ≡ seed) × (turns ≡ count)
AsksFor (Refused fault) None = Unit {0}
AsksFor reading request = ⊥
