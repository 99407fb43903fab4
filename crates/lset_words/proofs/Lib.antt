pub mod Bounds
pub mod Numbers
pub mod IncreasingLists
pub mod LastCalls
pub mod RecordLaws
