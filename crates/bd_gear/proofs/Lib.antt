pub mod BufferLemmas
pub mod GearLemmas
pub mod RollLemmas
pub mod ScanLemmas
pub mod NextLemmas
pub mod FeedingLemmas
