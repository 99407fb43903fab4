pub mod Fine
pub mod Lawful
