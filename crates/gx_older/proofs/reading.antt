pub mod PartsRead
