-- The status and the text of each end.
use Rattle.std.specs.Prelude.{ℕ, Bool, true, false, nat_lt, List, [], ◌++◌, codes, if◌then◌else◌}
use Rattle.std.specs.List.{list_any}
use Rattle.bd_model.specs.declared.answer.Answer.{Answer}
use Rattle.bd_model.specs.declared.answer.Answer.TheVariants.{Scrubbed, FullNumbers, FullVersions, FullExtents, NoVersion, NothingRetained}
use Rattle.bd_model.specs.declared.place.Place.{Place}
use Rattle.bd_model.specs.declared.place.Place.TheVariants.{Short, Gate, Magic, Number, Shape, Padding, Room, Halves, Payload, Log}
use Rattle.bd_model.specs.declared.shape.Field.{Field}
use Rattle.bd_model.specs.declared.shape.Field.TheVariants.{Extent, Extents, Retain, Min, Bits, Max}
use Rattle.bd_model.specs.Texts.{line, named, damage_text}
use Rattle.mfdedup.specs.declared.report.End.{End}
use Rattle.mfdedup.specs.declared.report.End.TheVariants.{Done, BadWords, BadNumber, BadName, BadShape, LongScript, BadLine, AlreadyAStore, TooSmall, NotAStore, DiskFault, Damaged, SourceFault, TargetFault, OutputFault, OutOfMemory, Unbuilt}

abbrev pub is_refusal : Answer → Bool
is_refusal FullNumbers = true
is_refusal (FullVersions retained) = true
is_refusal (FullExtents counted free held) = true
is_refusal (NoVersion asked oldest newest) = true
is_refusal (NothingRetained asked) = true
is_refusal _ = false

abbrev pub finds_damage : Answer → Bool
finds_damage (Scrubbed report) = nat_lt 0 report.damaged
finds_damage _ = false

abbrev pub status_of : End → List Answer → ℕ
status_of Done answers = if list_any finds_damage answers then 3 else (if list_any is_refusal answers then 1 else 0)
status_of AlreadyAStore answers = 1
status_of (TooSmall need have) answers = 1
status_of BadWords answers = 2
status_of (BadNumber position) answers = 2
status_of BadName answers = 2
status_of (BadShape field) answers = 2
status_of LongScript answers = 2
status_of (BadLine number) answers = 2
status_of DiskFault answers = 3
status_of (Damaged damage) answers = 3
status_of (NotAStore place) answers = 3
status_of SourceFault answers = 4
status_of TargetFault answers = 4
status_of OutputFault answers = 4
status_of Unbuilt answers = 2
status_of OutOfMemory answers = 5

abbrev pub place_text : Place → List ℕ
place_text Short = codes "short"
place_text Gate = codes "gate"
place_text Magic = codes "magic"
place_text Number = codes "number"
place_text Shape = codes "shape"
place_text Padding = codes "padding"
place_text Room = codes "room"
place_text Halves = codes "halves"
place_text Payload = codes "payload"
place_text Log = codes "log"

abbrev pub field_text : Field → List ℕ
field_text Extent = codes "extent"
field_text Extents = codes "extents"
field_text Retain = codes "retain"
field_text Min = codes "min"
field_text Bits = codes "bits"
field_text Max = codes "max"

-- what is put last; nothing where the end is Done or the sink failed
abbrev pub end_text : End → List ℕ
end_text Done = []
end_text OutputFault = []
end_text BadWords = line (codes "bad words")
end_text (BadNumber position) = line (named (codes "bad number: ") position)
end_text BadName = line (codes "bad name")
end_text (BadShape field) = line (codes "bad shape: " ++ field_text field)
end_text LongScript = line (codes "script too long")
end_text (BadLine number) = line (named (codes "bad line ") number)
end_text AlreadyAStore = line (codes "already a store")
end_text (TooSmall need have) = line (named (codes "too small: need ") need ++ named (codes ", have ") have)
end_text (NotAStore place) = line (codes "not a store: " ++ place_text place)
end_text DiskFault = line (codes "disk fault")
end_text (Damaged damage) = damage_text damage
end_text SourceFault = line (codes "source fault")
end_text TargetFault = line (codes "target fault")
end_text Unbuilt = line (codes "unbuilt")
end_text OutOfMemory = line (codes "out of memory")
