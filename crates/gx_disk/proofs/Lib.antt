pub mod Calls
pub mod Empty
pub mod Leaving
pub mod Looking
pub mod Record
pub mod Results
pub mod Spans
