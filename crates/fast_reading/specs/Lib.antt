-- Reading the most frequent frames straight into their slots.
pub mod Answer
pub mod Chunk
