-- What reading into slots answers, and what it leaves of them.
pub mod Answer
