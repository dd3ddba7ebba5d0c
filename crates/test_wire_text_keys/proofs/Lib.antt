-- Why the counts are what they count.
mod Sums
mod Tally
