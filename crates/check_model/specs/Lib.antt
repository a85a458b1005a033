-- The model check: its definitions, their laws and their meaning.
pub mod Model
pub mod Laws
pub mod Meaning
pub mod Places
