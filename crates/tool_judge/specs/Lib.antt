pub mod Clashes
pub mod Judging
pub mod Exact
