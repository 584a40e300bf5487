pub mod Head
pub mod Migrated
pub mod Migrating
pub mod Moved
pub mod Setting
