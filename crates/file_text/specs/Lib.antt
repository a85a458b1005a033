pub mod Text
pub mod Rooms
pub mod Decimal
pub mod Put
pub mod Steps
