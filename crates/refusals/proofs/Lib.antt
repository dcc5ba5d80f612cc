-- Laws of the refusals.
pub mod Lines
pub mod Calls
