pub mod OverDevices
