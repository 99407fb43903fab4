pub mod Trouble
pub mod Tools
pub mod Arguments
