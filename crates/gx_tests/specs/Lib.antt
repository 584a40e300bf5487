pub mod Halves
pub mod OneByte
