pub mod WriteLaws
pub mod TalkLaws
