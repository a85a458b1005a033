pub mod Finished
pub mod Table
