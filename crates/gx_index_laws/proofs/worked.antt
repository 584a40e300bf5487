pub mod WorkedLife
