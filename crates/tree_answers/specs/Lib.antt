pub mod First
pub mod Small
pub mod Order
pub mod Picked
pub mod Longer
