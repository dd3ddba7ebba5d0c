-- Lemmas that belong to no one function.
pub mod ElementEnds
pub mod Rows
pub mod Walks
