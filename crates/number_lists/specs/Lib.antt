-- The count, elements of one width, and what is checked before elements are.
pub mod Counts
pub mod Fixed
pub mod Checks
