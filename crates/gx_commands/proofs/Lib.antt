pub mod Refusing
pub mod Faults
pub mod Over
pub mod Forgetting
