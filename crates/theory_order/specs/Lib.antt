pub mod Rearranged
pub mod Often
pub mod Order
