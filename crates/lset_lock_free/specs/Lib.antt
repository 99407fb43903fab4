pub mod LockFree
pub mod Lawful
pub mod Rows
