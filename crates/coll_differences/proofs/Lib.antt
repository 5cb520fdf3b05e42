pub mod ChangeLemmas
pub mod DeclaredNames
pub mod OrderLemmas
pub mod SamenessLemmas
pub mod SameTables
pub mod VisitedSections
pub mod WalkedLists
