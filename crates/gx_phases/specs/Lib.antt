pub mod States
pub mod Parts
pub mod Asked
pub mod Moves
pub mod Lending
pub mod Restoring
pub mod Indexes
