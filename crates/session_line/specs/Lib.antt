pub mod Numbered
pub mod Both
pub mod Longer
pub mod Verdict
