pub mod FieldCounts
pub mod LineKinds
pub mod NumbersBefore
pub mod NextCalls
pub mod KeptByLine
pub mod ReadLaws
pub mod TextFound
