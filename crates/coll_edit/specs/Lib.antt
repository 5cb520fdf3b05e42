pub mod Editing
pub mod EditRuns
pub mod OwnLines
pub mod OwnReplies
pub mod Stored
pub mod Watching
pub mod WordSigns
