-- The applets by number and set, the roll, and what the order of call means.
pub mod ByNumber
pub mod Rolls
pub mod Order
