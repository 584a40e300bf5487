pub mod Extents
pub mod Shown
