pub mod Layout
pub mod Round
pub mod Standing
