-- What a writer of a menu asks of the rows.
pub mod Fits
