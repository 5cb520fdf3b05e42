mod CharNodes
mod CharPages
mod CharSets
pub mod IdSets
mod ListedNames
pub mod FollowedNumbers
pub mod NameNodes
pub mod NameSets
mod NodeLookUps
mod PairedNodes
pub mod Sameness
mod WordHashing
