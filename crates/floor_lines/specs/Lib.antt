-- The texts of a line.
pub mod Texts
