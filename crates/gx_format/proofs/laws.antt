pub mod LaidDown
pub mod LayingPhases
pub mod Wrote
