pub mod Counted
pub mod Devices
pub mod Limits
pub mod LineBuffer
pub mod LineReading
pub mod PhysicalLines
pub mod Stops
