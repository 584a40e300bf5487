pub mod Acknowledged
pub mod AtOnce
