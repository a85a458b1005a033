pub mod Linear
pub mod Halving
pub mod Bits
pub mod Products
pub mod Searching
