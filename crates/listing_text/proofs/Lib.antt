-- Why the listing's code does what its definitions say.
pub mod Lines
pub mod Listings
