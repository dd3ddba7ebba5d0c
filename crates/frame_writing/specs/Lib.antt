-- Writing from slots: what an answer stands for.
pub mod Written
