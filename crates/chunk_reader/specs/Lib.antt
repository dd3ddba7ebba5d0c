-- The messages of a chunk, and the reader that gives them one by one.
pub mod Messages
pub mod Reader
pub mod Run
pub mod Asked
