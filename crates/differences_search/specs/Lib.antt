pub mod Double
pub mod Searched
