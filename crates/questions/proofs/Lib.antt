-- Lemmas that belong to no one function.
pub mod Questions
pub mod Answers
pub mod Found
