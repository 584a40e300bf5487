pub mod AloneRuns
pub mod SerialRuns
pub mod WorkedRun
