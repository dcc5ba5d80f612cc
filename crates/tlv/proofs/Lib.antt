-- Laws of the rules' definitions on bytes: runs, one element at a time, and what a search finds in them; the outer value; either form of a tag.
pub mod Runs
pub mod Wraps
pub mod Forms
