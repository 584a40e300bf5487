pub mod HeadRecords
