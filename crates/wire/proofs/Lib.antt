-- Lemmas that belong to no one function.
pub mod Within
pub mod Widths
pub mod TwosComplement
pub mod Casts
pub mod Splice
