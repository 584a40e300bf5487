pub mod World
pub mod Storms
pub mod Endings
