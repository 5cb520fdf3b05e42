pub mod AdviceLines
pub mod FaultNumbers
pub mod Faults
pub mod LineFaults
pub mod MeantNames
pub mod NearNames
