pub mod Commits
pub mod Finding
pub mod Halves
pub mod Logs
pub mod Replays
pub mod Standing
pub mod Superblock
