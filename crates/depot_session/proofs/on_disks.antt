-- What a run makes of its disk.
pub mod LeftJournals
pub mod DiskCalls
pub mod Called
pub mod Uncalled
pub mod RunImages
pub mod RunCalls
