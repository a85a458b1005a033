pub mod Clock
pub mod Refusal
pub mod Promise
pub mod Laws
pub mod Rounded
pub mod Ordered
pub mod Outcomes
pub mod Refused
