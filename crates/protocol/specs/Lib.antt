-- The protocol's vocabulary, from 01 and from the reference that it condenses (004).
pub mod Refusals
pub mod Numbers
pub mod ResponseCodes
pub mod Kinds
pub mod Table
pub mod TableFacts
pub mod Layouts
pub mod LayoutNumbers
pub mod Decision
pub mod Fields
pub mod Frames
