pub mod Tallies
pub mod Tallied
pub mod Serving
pub mod Workers
