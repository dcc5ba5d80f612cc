-- What the menu reader's parts hand on.
pub mod Reads
