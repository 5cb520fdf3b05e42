pub mod EntryWeights
pub mod NamedAlone
pub mod OwnStatements
pub mod SecondNames
