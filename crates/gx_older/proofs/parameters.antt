pub mod SectorRead
