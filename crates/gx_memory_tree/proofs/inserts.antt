pub mod Down
pub mod Splits
pub mod Steps
