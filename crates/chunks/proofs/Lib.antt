-- Lemmas that belong to no one function.
pub mod Entries
pub mod ChunkTypes
pub mod Chunks
