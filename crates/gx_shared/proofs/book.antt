pub mod Keeping
pub mod Made
