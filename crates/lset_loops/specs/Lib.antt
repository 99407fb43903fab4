pub mod Begun
pub mod Calling
pub mod Coarse
pub mod Fine
pub mod Lazy
pub mod LockFree
pub mod Nodes
pub mod Optimistic
