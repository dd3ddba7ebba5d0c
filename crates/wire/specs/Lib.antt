-- The wire's primitives, from 01 "Numbers and text on the wire".
pub mod Integers
pub mod Signed
pub mod SignedLaws
pub mod Buffer
