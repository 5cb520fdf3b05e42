pub mod OwnStatements
pub mod SecondNames
