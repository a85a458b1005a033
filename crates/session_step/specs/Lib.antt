pub mod Read
pub mod Written
pub mod Done
pub mod Columns
pub mod Lower
pub mod Rows
pub mod Meaning
pub mod Start
