pub mod Table
pub mod Places
pub mod Scan
pub mod Record
pub mod Laid
pub mod Laws
pub mod Refusal
