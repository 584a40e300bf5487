pub mod Keeping
pub mod Writing
