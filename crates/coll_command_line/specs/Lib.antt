pub mod CommandLine
pub mod Reading
pub mod Tasks
