-- The lines of a listing, as text (01 "The listing program").
pub mod Text
pub mod Line
pub mod Printed
