pub mod Faults
pub mod Met
pub mod Owners
pub mod Plan
pub mod Restored
pub mod Target
pub mod Walk
pub mod Went
