pub mod SlotLaws
pub mod IndexLaws
pub mod SealLaws
pub mod CallRuns
pub mod Decided
