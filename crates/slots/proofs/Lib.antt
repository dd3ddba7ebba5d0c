-- What is proved of the flat form, and what the proofs of several functions use.
pub mod Behind
pub mod Inverse
pub mod Padding
pub mod Overlaid
pub mod Fields
pub mod RoundTrips
pub mod SlotsInRow
pub mod Zeros
pub mod Demand2
