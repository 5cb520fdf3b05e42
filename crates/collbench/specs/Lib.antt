pub mod MadeTexts
pub mod WrittenDeltas
