pub mod Choosing
pub mod Marking
pub mod Chosen
pub mod Formula
pub mod Examples
pub mod Missing
