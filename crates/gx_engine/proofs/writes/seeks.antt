pub mod Joined
pub mod Moves
