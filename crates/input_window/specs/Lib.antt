-- What a window shows of an input, after any number of reads.
pub mod Reads
pub mod Window
