-- Laws of the writer.
pub mod Heads
pub mod Lines
pub mod Whole
