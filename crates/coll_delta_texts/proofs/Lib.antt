pub mod CopyLines
pub mod DeltaSays
pub mod ReadFiles
pub mod SaidRequests
pub mod TextParts
pub mod WritableTests
