pub mod ReadingBack
