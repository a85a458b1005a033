pub mod Against
pub mod Shown
pub mod Written
