pub mod Refusal
pub mod Answer
pub mod Found
pub mod Identifiers
pub mod Choice
pub mod Meaning
