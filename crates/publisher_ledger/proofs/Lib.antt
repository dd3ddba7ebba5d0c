-- Demand 3 for the publisher ledger.
pub mod Demand3
pub mod Numbers
