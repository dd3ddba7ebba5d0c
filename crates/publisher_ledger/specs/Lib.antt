-- The publisher ledger's calls, what they do, and demand 3 for it.
pub mod Calls
pub mod Step
pub mod Demand3
pub mod Numbers
