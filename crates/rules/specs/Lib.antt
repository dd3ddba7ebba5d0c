-- What reading and writing a frame mean, from 01.
pub mod Outcome
pub mod Reading
pub mod Grammar
pub mod Exactness
pub mod Writing
pub mod RoundTrips
pub mod Demand2
pub mod Answers
pub mod Cases
