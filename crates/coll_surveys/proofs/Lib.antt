pub mod DeltaLemmas
pub mod MendingLemmas
pub mod TableLemmas
pub mod TellingLemmas
pub mod WeightLemmas
