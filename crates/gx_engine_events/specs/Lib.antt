pub mod Seen
pub mod One
pub mod Crashes
pub mod Books
pub mod New
pub mod Setting
