mod DigitLemmas
mod KindLemmas
mod NumberLemmas
mod RangeLemmas
mod TallyLemmas
