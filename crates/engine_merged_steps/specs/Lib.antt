pub mod Cells
pub mod Keep
pub mod Merge
