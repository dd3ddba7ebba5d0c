-- Lemmas that belong to no one function.
pub mod Following
pub mod Ascii
pub mod ScalarValues
