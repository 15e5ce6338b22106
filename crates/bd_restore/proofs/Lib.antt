mod FaultPassedOn
mod WalkEnd
mod FirstAndLast
pub mod Frames
mod WentLemmas
pub mod JoinedWalks
mod Marks
mod MetByRecord
mod WalkRows
mod PutLemmas
mod Reached
mod WrittenOver
mod MetOnWalk
pub mod StandingRestore
pub mod StandingContent
pub mod StandingLean
pub mod StandingReads
mod WalkLemmas
