-- Lemmas of the crate.
pub mod Places
