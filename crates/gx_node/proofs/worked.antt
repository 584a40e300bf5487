pub mod Tested
pub mod WorkedLook
pub mod WorkedSteps
pub mod WorkedTrees
