-- What holds of every card that a fresh card and calls have left.
pub mod Sound
