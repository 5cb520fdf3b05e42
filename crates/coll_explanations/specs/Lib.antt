pub mod Explaining
pub mod ExplanationLaws
pub mod Explanations
pub mod RankLooks
pub mod Sources
pub mod ToldLists
pub mod ToldSteps
