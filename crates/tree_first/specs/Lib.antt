pub mod Tried
pub mod First
