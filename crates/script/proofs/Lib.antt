-- Lines and records one behind the other; no second answer.
pub mod Blocks
pub mod Settled
