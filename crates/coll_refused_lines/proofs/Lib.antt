pub mod MarkedLemmas
pub mod NumberedLemmas
