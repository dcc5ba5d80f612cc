-- The requests for poll intervals as a table by applet number.
pub mod Polls
