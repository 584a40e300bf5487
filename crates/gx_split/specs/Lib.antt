pub mod Fair
pub mod Frames
pub mod Placement
pub mod Sizes
pub mod Split
pub mod Waiting
