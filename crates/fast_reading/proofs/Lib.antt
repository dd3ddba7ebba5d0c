-- What the proofs of several functions use.
mod Rows
mod Chunks
mod Keys
mod Delivers
