pub mod DecidingLevels
pub mod ExplanationParts
pub mod SourceLemmas
pub mod ToldLemmas
