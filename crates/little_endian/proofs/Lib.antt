-- Lemmas that proofs of this crate share.
pub mod Stores
