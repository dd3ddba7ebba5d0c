-- Lemmas that belong to no one function.
pub mod FlatFields
pub mod Rows
pub mod Narrowing
pub mod ChunkChecks
