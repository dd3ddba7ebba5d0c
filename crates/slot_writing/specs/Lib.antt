-- Fields written from their slots.
pub mod Narrow
