-- The definitions and laws of this crate.
pub mod Bytes
pub mod Writing
pub mod Back
