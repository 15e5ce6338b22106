mod OpeningAnswers
mod Bytes
mod Checks
mod ClaimedCatalogue
mod FirstCalls
pub mod Found
mod Stops
