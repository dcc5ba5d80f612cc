-- What a piece of the floor program's input leaves.
pub mod Pieces
pub mod Turns
