-- The order of call is the document's; the applets by number; what an install and a delete leave of them; tables by number with one value changed.
pub mod Promise
pub mod Order
pub mod Numbers
pub mod InSet
pub mod Joined
pub mod Removed
pub mod Made
