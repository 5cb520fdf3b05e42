pub mod Changes
pub mod Declarations
pub mod Differences
pub mod Lines
pub mod Orders
pub mod Sameness
pub mod Weights
