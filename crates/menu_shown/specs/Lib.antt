-- Whom a row calls, whether a call changes what is shown, and what is shown by the set of the selectable applets.
pub mod Chosen
