pub mod Help
pub mod Showing
pub mod ToldLists
pub mod WordKeys
pub mod WordLists
