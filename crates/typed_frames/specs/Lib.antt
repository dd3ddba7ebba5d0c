-- Typed frames.
pub mod Answer
