pub mod Reduced
pub mod Weight
