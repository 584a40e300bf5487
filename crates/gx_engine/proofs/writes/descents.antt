pub mod Ending
pub mod Inserted
pub mod MakingRoom
pub mod Moves
pub mod ReadFirst
pub mod Stopping
