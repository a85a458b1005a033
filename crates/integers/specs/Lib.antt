pub mod Integer
pub mod Table
pub mod Sequence
pub mod Lowest
pub mod Fill
pub mod Laws
