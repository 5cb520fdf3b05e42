pub mod Changes
pub mod Laid
pub mod Laws
pub mod Layout
pub mod Lists
pub mod Sound
pub mod Store
pub mod Stored
