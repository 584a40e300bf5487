pub mod Calls
pub mod Books
pub mod Agreed
pub mod Sharing
