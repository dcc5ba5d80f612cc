-- What a call changes of the shown events, the calls that change nothing of them, and the codes that are shown.
pub mod Shown
pub mod Quiet
pub mod Places
pub mod Listed
