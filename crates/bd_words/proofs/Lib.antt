mod Given
mod Pairs
mod Walks
