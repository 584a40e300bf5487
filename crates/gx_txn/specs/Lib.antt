pub mod Claimed
pub mod Notes
pub mod Tables
pub mod Watched
