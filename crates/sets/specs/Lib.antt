-- Sets of applet numbers as bits.
pub mod Sets
