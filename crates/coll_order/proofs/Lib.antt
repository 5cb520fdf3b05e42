mod Calls
pub mod EndLemmas
mod Ends
pub mod LayoutLemmas
mod Linking
pub mod ListLemmas
pub mod RingLemmas
mod Runs
pub mod Sameness
mod StoreLemmas
mod Tags
mod Unlinking
