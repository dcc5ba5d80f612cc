-- An applet's row, and what the calls about it leave.
pub mod ItsRow
