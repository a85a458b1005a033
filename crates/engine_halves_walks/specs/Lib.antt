pub mod Between
pub mod Halves
