pub mod Dumped
pub mod Durably
pub mod Saying
