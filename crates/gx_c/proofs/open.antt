pub mod Closing
pub mod Undone
