pub mod FileLemmas
pub mod TableLemmas
pub mod TextLemmas
pub mod SinkLemmas
