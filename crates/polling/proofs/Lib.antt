-- Laws of polling.
pub mod Durations
pub mod Intervals
pub mod OneRequest
pub mod ByApplets
pub mod Quiet
