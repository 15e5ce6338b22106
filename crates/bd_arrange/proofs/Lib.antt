pub mod AllTurns
pub mod ArrangedStates
pub mod DueHeld
mod Faults
pub mod InGrown
pub mod Laps
pub mod LastVolume
pub mod MoreMoved
pub mod Moved
pub mod NoDamage
pub mod OneStretch
pub mod OneTurn
pub mod OpenRows
pub mod Opens
pub mod Picked
pub mod RowsThen
pub mod SettledLayout
pub mod SplitExtents
pub mod SplitMoves
pub mod Splits
pub mod StandsArranged
pub mod TurnFrame
mod Stretches
pub mod TakingTurns
mod CategoryRecords
pub mod Told
pub mod TurnCalls
pub mod WrittenRecords
