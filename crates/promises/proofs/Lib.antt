-- Demand 1 in one place; no second answer; two menus never have the same bytes; the sequences that the promises over all runs
-- speak of are those of the card's calls; the screen is right; and the final theorem, over the struct, in its parts and whole.
pub mod DemandOne
pub mod OneAnswer
pub mod SameRuns
pub mod OnScreen
pub mod TablesNamed
pub mod CallsNamed
pub mod TurnsNamed
pub mod Carried
pub mod FiringOnce
pub mod OldNames
pub mod Documented
pub mod Final
pub mod Through
