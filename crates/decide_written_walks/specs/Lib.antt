pub mod Copy
pub mod Shortest
pub mod Written
pub mod Refutation
pub mod Stretch
