-- The listing of a capture (01 "The listing program").
pub mod Listing
pub mod Steps
