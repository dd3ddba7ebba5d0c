-- What a listing has read and handed out, and where it stands.
pub mod History
pub mod Reader
pub mod Stages
pub mod Standing
pub mod Run
