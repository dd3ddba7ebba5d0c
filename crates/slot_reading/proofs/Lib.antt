-- Lemmas that belong to no one function.
pub mod FieldSlots
pub mod RowSlots
pub mod Headers
