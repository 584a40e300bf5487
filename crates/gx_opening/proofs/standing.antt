pub mod Faults
pub mod Ordering
