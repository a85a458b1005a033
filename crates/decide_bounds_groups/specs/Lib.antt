pub mod Reading
pub mod Grouping
