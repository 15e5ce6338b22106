mod Cuts
mod Decimals
mod Lines
mod Plain
pub mod ReadBack
mod ScriptLemmas
mod Spelled
