pub mod Placed
pub mod Settling
pub mod Made
pub mod Found
