pub mod Devices
pub mod SessionText
pub mod Sessions
pub mod SessionSoFar
