pub mod InReach
pub mod Rightlinks
