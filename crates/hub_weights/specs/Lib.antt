pub mod Weights
pub mod Lowered
pub mod Put
