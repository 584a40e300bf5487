pub mod Breaks
pub mod Entries
pub mod Gathered
pub mod Marks
pub mod Nodes
pub mod Owner
pub mod Placing
pub mod Texts
