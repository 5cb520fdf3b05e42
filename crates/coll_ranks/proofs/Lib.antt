pub mod AlikePrefixes
pub mod CellLemmas
pub mod LevelRows
pub mod ElementNumbers
pub mod RankListLemmas
pub mod RankingLemmas
mod RecentLemmas
pub mod RowNumbers
pub mod TextRows
pub mod WalkedRanks
