pub mod Bodies
pub mod Ids
pub mod ScannedLog
pub mod Covered
pub mod Ordering
pub mod WriteLines
pub mod LogScans
