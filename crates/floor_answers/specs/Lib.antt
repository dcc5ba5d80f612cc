-- What a line shows of an answer.
pub mod Shown
