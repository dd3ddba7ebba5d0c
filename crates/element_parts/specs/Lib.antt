-- The place that the slots of a field show.
pub mod Slots
