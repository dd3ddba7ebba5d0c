-- Lemmas that belong to no one function.
pub mod Spots
pub mod Runs
pub mod Delivers
pub mod AskedMessages
