pub mod DeltaText
pub mod ReadBack
pub mod Writable
