pub mod Makes
pub mod Back
pub mod Reading
pub mod Again
pub mod Refuted
