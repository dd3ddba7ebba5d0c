-- How the code's answers go with the definitions of reading and writing.
pub mod Stops
