-- The credit ledger's calls, what they do, demand 3, and the marked cases.
pub mod Calls
pub mod Step
pub mod Demand3
pub mod Cases
pub mod Numbers
