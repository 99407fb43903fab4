pub mod Optimistic
pub mod Lawful
pub mod Promises
