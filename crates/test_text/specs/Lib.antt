-- The digits of the inputs, and their places.
pub mod Digits
pub mod Search
