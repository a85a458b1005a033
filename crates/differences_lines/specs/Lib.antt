pub mod Others
pub mod PlainList
pub mod Refused
