pub mod Sizes
pub mod Verified
