-- What the functions that the host calls hand back.
pub mod Answer
pub mod Numbers
