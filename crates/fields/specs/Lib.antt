-- How fields are measured and put.
pub mod Passes
