pub mod Counts
pub mod KeptTexts
pub mod LintLines
pub mod Lints
pub mod Orders
pub mod WarningLines
