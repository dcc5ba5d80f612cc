-- Lemmas of the crate.
pub mod WordLaws
pub mod ByteLaws
pub mod RoomLaws
pub mod LineLaws
pub mod Accepted
