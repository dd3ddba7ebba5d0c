-- What the ledgers share: the rules of a call, what a history says, and demand 3 over any ledger.
pub mod Calls
pub mod Rules
pub mod Answers
pub mod History
pub mod Demand3
pub mod Numbers
