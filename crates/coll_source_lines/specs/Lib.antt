pub mod SourceFaults
pub mod NameRanges
pub mod Adjustments
pub mod Reports
