-- Where lengths and elements end.
pub mod Ends
