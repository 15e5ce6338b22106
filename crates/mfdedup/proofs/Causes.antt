-- What brings the end of a session is what brings that of the call.
use Rattle.std.proofs.Common.{◌≡◌, refl}
use Rattle.bd_session.specs.Ends.{session_cause}
use Rattle.bd_session.specs.declared.report.SessionEnd.{SessionEnd}
use Rattle.bd_session.specs.declared.report.SessionEnd.TheVariants.{Done, SourceFault, TargetFault, DiskFault, Damaged, OutputFault, OutOfMemory, Unbuilt}
use Rattle.mfdedup.specs.Failing.{end_cause, end_of_session}

pub same_cause : (ending : SessionEnd) → end_cause (end_of_session ending) ≡ session_cause ending
same_cause Done = refl
same_cause SourceFault = refl
same_cause TargetFault = refl
same_cause DiskFault = refl
same_cause (Damaged damage) = refl
same_cause OutputFault = refl
same_cause OutOfMemory = refl
same_cause Unbuilt = refl
