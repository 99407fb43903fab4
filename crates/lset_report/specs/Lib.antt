pub mod Report
pub mod Order
pub mod Texts
pub mod ReportReading
pub mod ReportCalls
pub mod ReportReader
