pub mod Progress
pub mod DeadlockFreedom
pub mod Wrong
