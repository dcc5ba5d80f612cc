-- What the contracts cite: texts composed.
pub mod Texts
