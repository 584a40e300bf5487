pub mod Exhausting
pub mod Settling
