pub mod Hub
pub mod Laws
pub mod Room
pub mod Seated
pub mod Limited
pub mod Placed
pub mod Written
