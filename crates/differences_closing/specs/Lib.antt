pub mod Entries
pub mod Closed
