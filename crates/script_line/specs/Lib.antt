-- What the contracts cite: words and numbers, what a line means, and records of the floor program.
pub mod Words
pub mod Lines
pub mod Records
