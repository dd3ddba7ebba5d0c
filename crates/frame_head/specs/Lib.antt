-- The head of a frame, and what its Size may be.
pub mod Head
pub mod Size
