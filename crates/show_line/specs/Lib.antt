pub mod Meaning
pub mod Answer
pub mod Found
pub mod Places
