-- Laws of the sets.
pub mod Bits
pub mod LeftOut
pub mod Built
