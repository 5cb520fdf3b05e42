pub mod MarkedLines
pub mod NumberedLines
pub mod RefusedLines
pub mod SpelledPlaces
