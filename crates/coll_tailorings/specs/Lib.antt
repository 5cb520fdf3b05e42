pub mod LineCounts
pub mod Rewriting
