pub mod ReportHistories
pub mod FieldCounts
pub mod ReportLoops
pub mod ReportLines
pub mod ReportTexts
pub mod SortedPlaces
