pub mod DeltaSurveys
pub mod TableSurveys
pub mod TableWeights
