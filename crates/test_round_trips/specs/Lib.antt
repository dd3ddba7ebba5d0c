-- When a frame comes back as it was.
pub mod Trip
