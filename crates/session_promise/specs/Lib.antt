pub mod Promise
pub mod Standing
pub mod Sequence
