pub mod Asking
pub mod Changing
pub mod Going
pub mod Listed
pub mod Shown
