pub mod Asked
pub mod Dispatch
