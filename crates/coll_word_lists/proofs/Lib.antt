pub mod LeadLemmas
pub mod NumberedLemmas
pub mod PackedOrder
pub mod SortCases
pub mod SortedLemmas
pub mod StoredLemmas
pub mod TextWords
pub mod WordTextLemmas
