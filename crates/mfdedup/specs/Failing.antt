-- The end that a fault of the crates below brings, and what brings an end.
use Rattle.mfdedup.specs.declared.report.End.{End}
use Rattle.mfdedup.specs.declared.report.End.TheVariants.{Done, DiskFault, Damaged, SourceFault, TargetFault, OutputFault, OutOfMemory, Unbuilt, NotAStore, AlreadyAStore, TooSmall, BadWords, BadNumber, BadName, BadShape}
use Rattle.bd_recover.specs.declared.fault.OpenFault.{OpenFault}
use Rattle.bd_recover.specs.declared.fault.OpenFault.TheVariants.{NotAStore as OpenNotAStore, DiskFault as OpenDisk, OutOfMemory as OpenMemory}
use Rattle.bd_recover.specs.declared.fault.FormatFault.{FormatFault}
use Rattle.bd_recover.specs.declared.fault.FormatFault.TheVariants.{AlreadyAStore as FormatMarked, TooSmall as FormatSmall, DiskFault as FormatDisk, OutOfMemory as FormatMemory}
use Rattle.bd_words.specs.declared.fault.WordsFault.{WordsFault}
use Rattle.bd_words.specs.declared.fault.WordsFault.TheVariants.{BadWords as NoLine, BadNumber as NoNumber, BadName as NoName, BadShape as NoShape, OutOfMemory as WordsMemory}
use Rattle.bd_store.specs.declared.fault.StoreFault.TheVariants.{SourceFault as StoreSource, TargetFault as StoreTarget, DiskFault as StoreDisk}
use Rattle.bd_session.specs.Ends.{Cause, FromNothing, FromSink, FromStore}
use Rattle.bd_session.specs.declared.report.SessionEnd.{SessionEnd}
use Rattle.bd_session.specs.declared.report.SessionEnd.TheVariants.{Done as AllDone, SourceFault as SessionSource, TargetFault as SessionTarget, DiskFault as SessionDisk, Damaged as SessionDamaged, OutputFault as SessionOutput, OutOfMemory as SessionMemory, Unbuilt as SessionUnbuilt}

abbrev pub end_of_words : WordsFault → End
end_of_words NoLine = BadWords
end_of_words (NoNumber position) = BadNumber position
end_of_words NoName = BadName
end_of_words (NoShape field) = BadShape field
end_of_words WordsMemory = OutOfMemory

abbrev pub end_of_session : SessionEnd → End
end_of_session AllDone = Done
end_of_session SessionSource = SourceFault
end_of_session SessionTarget = TargetFault
end_of_session SessionDisk = DiskFault
end_of_session (SessionDamaged damage) = Damaged damage
end_of_session SessionOutput = OutputFault
end_of_session SessionMemory = OutOfMemory
end_of_session SessionUnbuilt = Unbuilt

abbrev pub end_of_opening : OpenFault → End
end_of_opening (OpenNotAStore place) = NotAStore place
end_of_opening OpenDisk = DiskFault
end_of_opening OpenMemory = OutOfMemory

abbrev pub end_of_format : FormatFault → End
end_of_format FormatMarked = AlreadyAStore
end_of_format (FormatSmall need have) = TooSmall need have
end_of_format FormatDisk = DiskFault
end_of_format FormatMemory = OutOfMemory

-- what brings an end
abbrev pub end_cause : End → Cause
end_cause SourceFault = FromStore StoreSource
end_cause TargetFault = FromStore StoreTarget
end_cause DiskFault = FromStore StoreDisk
end_cause OutputFault = FromSink
end_cause ending = FromNothing
