-- Writing the most frequent frames.
pub mod Answer
