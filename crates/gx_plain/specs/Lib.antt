pub mod Slots
pub mod Index
pub mod Kept
pub mod Runs
pub mod OneRun
pub mod Decided
