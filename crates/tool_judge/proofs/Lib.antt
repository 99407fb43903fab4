pub mod AnswerOfBytes
pub mod MoreLines
pub mod OneReading
pub mod RightAnswers
