-- Lemmas that belong to no one function.
pub mod FixedWidth
pub mod Lists
