pub mod Drawing
pub mod Draws
pub mod Generating
pub mod Plan
pub mod ScheduleReading
pub mod GeneratorTurns
