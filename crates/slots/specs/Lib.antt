-- Flat frames and elements.
pub mod Flat
pub mod Unflat
pub mod SlotsInRow
pub mod Inverse
pub mod Slots
pub mod Demand2
