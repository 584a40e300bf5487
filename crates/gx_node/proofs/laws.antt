pub mod Gathered
pub mod SmallKeeps
pub mod SmallNodes
pub mod SmallPages
