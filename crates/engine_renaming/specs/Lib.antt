pub mod Inverse
pub mod Order
pub mod Renamed
