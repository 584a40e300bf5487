pub mod Copies
pub mod Memory
pub mod Opened
pub mod Reached
pub mod Walks
