pub mod Masked
pub mod Refuted
pub mod More
pub mod Condition
pub mod Numbered
