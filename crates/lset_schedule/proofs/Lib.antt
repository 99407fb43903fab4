pub mod BodyLaws
pub mod BodyLoops
pub mod Drafts
pub mod DrawLaws
pub mod ScheduleTextLaws
pub mod VersionLaws
