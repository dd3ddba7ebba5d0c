-- Slots that are taken in wire order.
pub mod Taken
pub mod Typed
