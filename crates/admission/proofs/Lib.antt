-- Laws of an install.
pub mod Requests
pub mod Refusing
