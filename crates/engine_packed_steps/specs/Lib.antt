pub mod Packed
pub mod Steps
pub mod Scratch
pub mod Written
pub mod Layout
pub mod Laid
