-- The place of an event.
pub mod Place
