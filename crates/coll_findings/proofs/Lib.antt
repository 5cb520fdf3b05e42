pub mod HandedLemmas
pub mod OnceLemmas
