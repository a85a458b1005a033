pub mod Filled
pub mod Passes
pub mod Potential
pub mod Back
pub mod Follow
pub mod AtOnce
