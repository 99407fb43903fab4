pub mod Versions
pub mod DraftLines
