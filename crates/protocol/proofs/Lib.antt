-- Lemmas that belong to no one function.
pub mod Unlisted
pub mod Picked
pub mod LayoutRows
pub mod LayoutNumbers
pub mod Counted
pub mod FrameRows
pub mod Numbers
pub mod Refused
