-- Lemmas that belong to no one function.
pub mod NumberEnds
pub mod Specifications
pub mod Encodings
