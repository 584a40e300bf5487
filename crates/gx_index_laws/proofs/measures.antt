pub mod Chores
pub mod Freed
pub mod Others
pub mod Unfreed
