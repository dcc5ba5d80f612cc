-- What the contracts of `timers` cite beside the rules.
pub mod Sets
pub mod Promises
