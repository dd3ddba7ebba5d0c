-- Why a session stands where its reads and writes have led to.
pub mod Standings
pub mod Listings
pub mod Runs
