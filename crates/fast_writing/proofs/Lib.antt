-- What the proofs of several functions use.
mod Chain
mod Encoded
mod Delivered
mod Flattened
