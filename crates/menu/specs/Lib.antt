-- What is said of the menu list beside the rules.
pub mod Table
