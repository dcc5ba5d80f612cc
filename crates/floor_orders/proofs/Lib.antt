-- The laws of orders.
pub mod OrderLaws
pub mod ValueLaws
