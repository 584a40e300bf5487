pub mod Unrecorded
