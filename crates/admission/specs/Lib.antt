-- The refusal of an install, by the roll of the applets present.
pub mod Refuses
