-- Runs of elements as they may be written, each tag in either form; parts of bytes by their place.
pub mod Written
pub mod Parts
