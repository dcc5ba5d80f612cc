-- What an order means.
pub mod Orders
