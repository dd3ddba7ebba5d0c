-- What the counts of this program count.
pub mod Sums
pub mod Keys
pub mod Texts
