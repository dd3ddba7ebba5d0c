-- Chunks and their entries.
pub mod Entries
