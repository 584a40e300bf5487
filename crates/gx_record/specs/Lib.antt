pub mod Bytes
pub mod Format
pub mod Laws
pub mod Reading
pub mod Rec
pub mod Seen
pub mod Slots
pub mod Writing
