pub mod Decided
pub mod Answered
