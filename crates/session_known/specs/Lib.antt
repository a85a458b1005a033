pub mod Known
pub mod Meaning
