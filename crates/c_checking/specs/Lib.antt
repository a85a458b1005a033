pub mod Calls
pub mod Laws
pub mod Returned
pub mod Bytes
