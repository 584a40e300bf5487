pub mod Counted
pub mod LaidOut
pub mod Moments
pub mod Moving
pub mod Renewing
