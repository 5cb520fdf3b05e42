pub mod FirstWeights
pub mod GatheredWarnings
pub mod MissingWeights
pub mod SurveyedLines
pub mod ToldFaults
