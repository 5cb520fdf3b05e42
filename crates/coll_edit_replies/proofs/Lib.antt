mod ShowingLemmas
mod StatementLemmas
pub mod ToldLemmas
pub mod ToldOrders
mod WordLemmas
pub mod WordListRuns
