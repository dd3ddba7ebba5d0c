-- Why the code of the lines does what their definitions say.
pub mod Texts
