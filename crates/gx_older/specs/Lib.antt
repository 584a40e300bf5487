pub mod Class
pub mod Laws
pub mod Reads
pub mod Renumbered
pub mod Told
