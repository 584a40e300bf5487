pub mod Begins
pub mod Noted
pub mod Turns
