pub mod Calls
pub mod Formatting
pub mod Fresh
pub mod Laws
