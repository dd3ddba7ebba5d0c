-- Lemmas that belong to no one function.
mod FieldPuts
mod Writings
mod Decided
mod Flattened
