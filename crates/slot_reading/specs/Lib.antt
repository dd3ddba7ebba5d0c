-- Fields read into their slots.
pub mod Reading
