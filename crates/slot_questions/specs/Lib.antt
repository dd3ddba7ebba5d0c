-- The questions of the host: what they are answered, that they find everything, and the numbers that they are refused with.
pub mod Asked
pub mod Elements
pub mod Messages
pub mod Numbers
pub mod Shapes
