-- Lemmas that belong to no one function.
pub mod Checked
pub mod StringFields
pub mod PlainEnds
pub mod Stops
pub mod Parts
