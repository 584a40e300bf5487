pub mod Calls
pub mod Devices
pub mod Drains
pub mod Fronts
pub mod Queues
