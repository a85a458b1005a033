pub mod Asked
pub mod Meaning
