pub mod FirstKeys
pub mod KeyLeads
pub mod LentWords
pub mod LetterKeys
pub mod SortKeys
pub mod StoredWords
pub mod TiedWords
