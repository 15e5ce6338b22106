pub mod Arranged
pub mod Cuts
pub mod Desks
pub mod Moving
pub mod Opens
pub mod Turns
pub mod Underway
