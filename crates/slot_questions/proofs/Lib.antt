-- Theorems that other crates cite.
pub mod Elements
pub mod Messages
pub mod Numbers
