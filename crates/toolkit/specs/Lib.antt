-- What a caller in C gets of the calls on a card, and of those beside it.
pub mod Does
pub mod Beside
