pub mod Entries
pub mod Laws
pub mod Located
pub mod Marked
pub mod Pieces
pub mod Reading
