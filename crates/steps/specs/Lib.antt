pub mod Point
pub mod Table
pub mod Sides
pub mod Step
pub mod Laws
pub mod Walk
pub mod Mirror
pub mod Zero
