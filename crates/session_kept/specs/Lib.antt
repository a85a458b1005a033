-- The kept outputs: their definitions, the laws for the code, and what they mean.
pub mod Kept
pub mod Laws
pub mod Meaning
