pub mod Calling
pub mod Images
pub mod Beginning
pub mod Narrow
pub mod Undamaged
pub mod Dumping
