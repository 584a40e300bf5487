pub mod MigrationEnds
