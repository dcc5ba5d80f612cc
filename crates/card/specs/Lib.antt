-- The card's struct and the rules' model of it, what a method hands back, the calls in pairs, and what calls make of parts of the card.
pub mod View
pub mod Replies
pub mod Switches
pub mod Turns
