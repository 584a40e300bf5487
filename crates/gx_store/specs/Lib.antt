pub mod Asked
pub mod Changing
pub mod Faults
pub mod Since
pub mod Standing
pub mod State
