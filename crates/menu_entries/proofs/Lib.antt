-- The laws of the rows that calls change, and the promises of the menu list.
pub mod Changes
pub mod Its
pub mod Free
pub mod Entry
pub mod Promise
