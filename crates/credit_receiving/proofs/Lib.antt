-- What a frame's first bytes say of its subscription, and what the code has to show.
mod Answers
mod Addressed
pub mod Slots
