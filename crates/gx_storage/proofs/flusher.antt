pub mod Unpaged
