pub mod Parts
pub mod TakenAway
