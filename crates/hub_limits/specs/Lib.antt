pub mod Ready
pub mod Stands
pub mod Sizes
pub mod Loops
