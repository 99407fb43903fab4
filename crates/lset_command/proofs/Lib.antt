pub mod Chosen
pub mod Commands
pub mod FoundValues
pub mod TableRows
