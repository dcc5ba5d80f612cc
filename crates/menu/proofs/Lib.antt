-- The laws of the menu list.
pub mod Tidy
pub mod Searches
