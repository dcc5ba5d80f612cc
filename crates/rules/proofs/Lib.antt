-- The proved cases, by computation; then laws of the rules.
pub mod Compute
pub mod Cases
pub mod Worked
pub mod AnnexD
pub mod OnRefusal
pub mod Bounds
pub mod DueMarks
pub mod Held
pub mod Reader
pub mod Listed
pub mod Numbers
