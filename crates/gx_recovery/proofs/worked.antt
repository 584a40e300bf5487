pub mod WorkedProofs
