-- The laws of pieces, and the promise of the floor program.
pub mod ObeyLaws
pub mod Letters
pub mod Reached
pub mod PieceLaws
pub mod Begun
pub mod Joined
pub mod Promise
