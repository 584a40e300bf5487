pub mod Refusals
pub mod Verdicts
pub mod Following
pub mod Mismatches
