pub mod Model
pub mod Slack
pub mod Halves
pub mod Longer
pub mod Groups
