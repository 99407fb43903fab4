pub mod Lazy
pub mod Lawful
pub mod Rows
