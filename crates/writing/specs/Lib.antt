-- What a writer does to a buffer that it is lent.
pub mod Puts
