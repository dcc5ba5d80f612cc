-- The laws of the menu reader.
pub mod Lists
pub mod Front
pub mod Items
pub mod Come
pub mod Answer
pub mod Promise
