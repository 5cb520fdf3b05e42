mod AnyLemmas
mod DefinedNames
mod ReadTexts
