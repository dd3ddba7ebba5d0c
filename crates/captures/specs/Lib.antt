-- What comes next in a capture.
pub mod Following
pub mod Answer
