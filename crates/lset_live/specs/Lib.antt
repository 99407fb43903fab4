pub mod Explained
pub mod Seats
pub mod Closes
pub mod Codes
pub mod Typed
