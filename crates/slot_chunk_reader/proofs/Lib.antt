-- Lemmas that belong to no one function.
pub mod SlotCalls
pub mod SlotRuns
pub mod Delivers
