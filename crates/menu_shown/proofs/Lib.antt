-- What is read in a row, whom it calls, and what a call changes of the shown menu.
pub mod Answers
pub mod Promise
pub mod MenuByRows
pub mod MenuByApplets
pub mod RowTurns
pub mod BySet
