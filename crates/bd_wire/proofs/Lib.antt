pub mod ReadingBack
pub mod Written
