-- Calls as the card's own methods answer them, with what they leave in the lent buffers; and what is promised of every card that they leave.
pub mod Watched
pub mod Turns
pub mod OneShots
pub mod DocumentOne
pub mod Promised
pub mod Doors
