-- That every card that a fresh card and calls have left is sound, by what a call touches; and laws that follow.
pub mod Looked
pub mod Accepted
pub mod Room
pub mod Next
pub mod Frames
pub mod Filled
pub mod Timed
pub mod Registered
pub mod Installed
pub mod Deleted
pub mod Entered
pub mod Altered
pub mod Waiting
pub mod Run
pub mod AlreadySo
pub mod Lowest
