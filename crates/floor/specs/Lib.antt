-- Where a turn leaves the floor program.
pub mod Turned
