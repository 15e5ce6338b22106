pub mod Answers
pub mod Faults
pub mod Fresh
pub mod Opens
