-- Demand 3 for the credit ledger, and the marked cases.
pub mod Delivers
pub mod Ids
pub mod Demand3
pub mod MarkedCases
pub mod Numbers
