pub mod ByKind
pub mod Fields
pub mod Numbers
pub mod SlotBytes
pub mod SlotFields
pub mod Whole
pub mod Writes
