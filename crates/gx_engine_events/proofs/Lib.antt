pub mod Stepping
pub mod Crashes
pub mod Pages
pub mod New
