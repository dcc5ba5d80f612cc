-- The laws of events.
pub mod Table
pub mod Places
