-- Slots that are filled in wire order.
pub mod Built
