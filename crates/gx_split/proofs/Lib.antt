pub mod Begun
pub mod Fairness
pub mod Frames
pub mod Placing
pub mod Steps
pub mod Wastes
