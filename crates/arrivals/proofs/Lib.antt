-- Whom an arrival is for, by the rules; the round; and the answer and the desk after a profile.
pub mod IsFor
pub mod Rounds
pub mod Waiting
pub mod Answering
