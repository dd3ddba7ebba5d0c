-- Parts of the source.
pub mod Parts
