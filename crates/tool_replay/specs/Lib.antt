pub mod Replaying
pub mod Checking
pub mod GenAnswers
pub mod Drafts
