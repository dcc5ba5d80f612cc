-- Whom an arrival is for, as a set; the round; the answer, and the desk after a profile.
pub mod Whom
pub mod Rounds
pub mod Answers
