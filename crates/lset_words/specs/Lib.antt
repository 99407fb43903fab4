pub mod Words
pub mod SequentialSet
pub mod Effects
pub mod History
pub mod Log
pub mod Account
pub mod Records
