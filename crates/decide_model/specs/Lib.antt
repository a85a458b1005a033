pub mod Limit
pub mod Value
pub mod Written
pub mod Values
