-- What a script's line says, and what it asks of the two ledgers.
pub mod Words
pub mod Calls
