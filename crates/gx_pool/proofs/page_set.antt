pub mod PageSets
