-- The event list, what changes it, and the struct of its codes.
pub mod Turns
pub mod Listed
