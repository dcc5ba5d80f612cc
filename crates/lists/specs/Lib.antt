-- The kit: tests, lists, arrays and bits by their index, and texts as bytes.
pub mod Tests
pub mod Lists
pub mod Tables
pub mod Bits
pub mod Text
pub mod Wrote
