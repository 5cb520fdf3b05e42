mod AdvanceLemmas
mod LineFeeds
mod LineReaderLemmas
pub mod PhysicalLinesLemmas
pub mod WritingLemmas
