-- What a history names. Read in this order: histories, what an entry says was done, also in a round, what it names, who is called, the
-- history of a run, what the terminal was handed, and that the screen is right.
pub mod Histories
pub mod Deeds
pub mod Rounds
pub mod Named
pub mod Called
pub mod Runs
pub mod Handed
pub mod OnScreen
