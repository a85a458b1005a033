pub mod Answer
pub mod Asked
pub mod Meaning
pub mod Places
