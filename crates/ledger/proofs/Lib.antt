-- The laws of any ledger.
pub mod Entries
pub mod Demand3
pub mod Numbers
