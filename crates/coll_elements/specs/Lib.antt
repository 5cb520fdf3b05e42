pub mod ElementOrder
pub mod Elements
pub mod NameMaps
pub mod NamedElements
pub mod Rank
pub mod RankedElements
pub mod TableElements
pub mod ElementEntries
