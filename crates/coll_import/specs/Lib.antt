pub mod Building
pub mod Exports
pub mod ReportText
