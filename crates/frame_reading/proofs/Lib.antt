-- What is proved of whole frames.
pub mod Sizes
pub mod Contents
pub mod Told
