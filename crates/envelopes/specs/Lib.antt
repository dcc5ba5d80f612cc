-- What decides what an envelope says, and whether it is malformed.
pub mod Judged
