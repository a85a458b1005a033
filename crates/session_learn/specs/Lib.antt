pub mod With
pub mod Learnt
