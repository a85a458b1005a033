pub mod Pair
pub mod Reading
pub mod Called
pub mod Meaning
pub mod Places
