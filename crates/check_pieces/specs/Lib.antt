pub mod Taken
pub mod Cut
