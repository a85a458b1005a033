pub mod Searched
pub mod Modelled
pub mod Decided
pub mod Places
pub mod Parts
