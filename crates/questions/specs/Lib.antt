-- Questions about what was read, what they find, and the code's answers in the terms of the rules.
pub mod Questions
pub mod Found
pub mod Answer
