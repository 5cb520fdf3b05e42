pub mod FirstLemmas
pub mod KeyLeadLemmas
pub mod LentLemmas
pub mod LetterKeyLemmas
pub mod MemberLemmas
pub mod StoredWordLemmas
pub mod TiedLemmas
