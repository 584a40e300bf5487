pub mod Begun
pub mod OneSet
