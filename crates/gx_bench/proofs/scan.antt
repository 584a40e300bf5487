pub mod Counting
pub mod Hits
