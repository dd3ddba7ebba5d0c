-- What receiving answers, what the slots hold, and the subscription that a frame is for.
pub mod Answer
pub mod Slots
pub mod Subscription
