-- What a card's method hands back is what its door does; the doors' promises; and laws of what a caller in C gets beside the card.
pub mod Doors
pub mod Promise
mod BesideLaws
