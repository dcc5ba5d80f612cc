-- Lines of the table, by what was looked up.
pub mod Lines
