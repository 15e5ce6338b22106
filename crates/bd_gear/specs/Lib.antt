pub mod Table
pub mod Rolling
pub mod Buffers
pub mod Chunking
pub mod Feeding
pub mod Seeking
pub mod Laws
