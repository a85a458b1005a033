pub mod Covers
pub mod Potential
