pub mod HandsBack
pub mod Shorter
pub mod Laws
