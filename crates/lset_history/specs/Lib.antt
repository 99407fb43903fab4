pub mod History
pub mod Oracle
pub mod Faults
pub mod Checks
pub mod Placement
pub mod Laws
pub mod Changes
pub mod Raising
