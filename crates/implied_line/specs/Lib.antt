pub mod Answer
pub mod Judged
pub mod Meaning
pub mod Places
