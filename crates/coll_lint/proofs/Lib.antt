pub mod GivenLemmas
pub mod KeptLemmas
pub mod LintCases
pub mod OrderLemmas
