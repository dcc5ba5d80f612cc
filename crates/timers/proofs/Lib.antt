-- The laws of timers.
pub mod Sets
pub mod Owners
pub mod Settled
