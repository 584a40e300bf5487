pub mod Meanwhile
pub mod WorkedEvents
