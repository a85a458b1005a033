pub mod Codes
pub mod Apart
pub mod CheckCode
pub mod ListBytes
pub mod InBytes
