-- The chunk reader in slots: what a call does, and what a run of calls gives.
pub mod Slots
pub mod SlotRun
