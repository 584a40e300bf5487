pub mod Noted
pub mod FirstAndLast
pub mod AsMachine
